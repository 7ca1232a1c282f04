use Rattle.std.proofs.Common.{◌≡◌, [], ◌++◌, List, Option, arith, ap, refl, sym, ◌∙◌, append-nil, length-append}
use Rattle.std.specs.Vec.Iter.{into_iter_items}
use Rattle.mac_queue.specs.Pass.{Pass}
use Rattle.mac_pool.specs.Pool.{at_home}
use Rattle.mac_queue.proofs.Balance.{empty_list}
use Rattle.mac_pool.proofs.Slots.{home_none, home_room}
use Rattle.mac_pool.proofs.passes.bring_home.Goals as goal

pub push_reserved-requires : goal.push_reserved-requires
push_reserved-requires g c =
    let room = home_room c.loop-slot.all.items _ _ _ _ c.in-Some-slot.pass c.in-Some.ensures.steps.0 c.in-Some-slot.is c.loop-slot.invariant.done in
    let len = c.loop-slot.all.ok.0 in
    let capacity = c.loop-slot.invariant.capacity in
    let asked = c.requires.room in
    omega (arith, length-append c.args.all.now.items (at_home c.args.slots.items))

pub loop-slot-init : goal.loop-slot-init
loop-slot-init g c = record {
  runs = tt;
  ends = tt;
  capacity = refl;
  done = ap (λ (l : List (Option (Pass g.row.S-Job.Denot))). c.args.all.now.items ++ at_home l) c.into_iter-slot-iterator.ensures.into_iter_gives.0;
}

pub loop-slot-preserved : goal.loop-slot-preserved
loop-slot-preserved g c = record {
  runs = tt;
  ends = tt;
  capacity = c.loop-slot.invariant.capacity;
  done = home_none _ _ _ _ _ c.in-Some.ensures.steps.0 c.in_default.is c.loop-slot.invariant.done;
}

pub returns : goal.returns
returns g c =
    let n = c.in-None.ensures.steps.0 in
    let e = c.loop-slot.slot-iterator.rest.ok.0 in
    let none : into_iter_items c.loop-slot.slot-iterator ≡ [] = empty_list _ (omega arith) in
    sym (append-nil _) ∙ ap (λ (l : List (Option (Pass g.row.S-Job.Denot))). c.loop-slot.all.items ++ at_home l) (sym none) ∙ c.loop-slot.invariant.done
