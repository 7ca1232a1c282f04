use Rattle.std.proofs.Common.{rules, ◌∙◌}
use Rattle.mac_pool.proofs.Parcels.{joined_more}
use Rattle.mac_pool.proofs.work.taken_apart.Goals as goal

pub loop-place-preserved : goal.loop-place-preserved
loop-place-preserved g c =
    let invariant = c.loop-place.invariant in
    let labels = c.push_reserved.ensures in
    let jobs = c.push_reserved-in-Some.ensures in
    record {
      left = joined_more c.loop-place.labels.items c.push_reserved.new.self.items c.loop-place.jobs.items c.push_reserved-in-Some.new.self.items _ c.in-Some.field-0.job c.loop-place.tickets.items c.pop_front.new.self.items c.args.tickets.now.items labels.items jobs.items invariant.even c.in-Some.ensures.items invariant.left;
      even = search rules;
      labels = search rules;
      jobs = search rules;
      capacity = c.in-Some.ensures.capacity ∙ invariant.capacity;
    }
