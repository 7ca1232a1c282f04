use Rattle.std.proofs.Common.{length, rules, ap, sym, ◌∙◌, subst}
use Rattle.std.specs.Arc.{arc_value}
use Rattle.mac_queue.specs.Line.{Line}
use Rattle.mac_pool.specs.Pool.{Slots, IsGiven}
use Rattle.mac_pool.proofs.Slots.{unset_homes}
use Rattle.mac_pool.proofs.Moves.{slots, given_is}
use Rattle.mac_pool.proofs.pool.Pool.give.Goals as goal

pub invariant_of-self : goal.invariant_of-self
invariant_of-self g c =
    let was = c.self.invariant in
    let out = c.take_out-pass.ensures.out in
    record {
      slots_fit = search rules;
      homes = rw out (unset_homes _ c.self.inside.passes.items c.args.number was.homes);
      given_fit = was.given_fit;
      given_room = was.given_room;
      given_are = was.given_are;
      all_empty = was.all_empty;
      all_fits = was.all_fits;
    }

pub returns-clause-given : goal.returns-clause-given
returns-clause-given g c =
    let pass = c.take_out-pass.result in
    let mine = c.self.invariant.homes c.args.number pass c.take_out-pass.ensures.was in (
      subst (λ (p : Slots g.row.S-Job.Denot). IsGiven p pass (slots (arc_value c.self.inside.queue).tickets (length c.self.inside.workers.items) c.take_out-pass.new.slots.items)) c.self.view_is
          (given_is _ _ c.args.number c.self.inside.passes.items _ pass mine.0 mine.1 c.take_out-pass.ensures.was c.take_out-pass.ensures.out),
      mine.1,
      mine.0 ∙ sym (ap (λ (l : Line). l.tickets) c.in_ok-queue.ensures),
    )
