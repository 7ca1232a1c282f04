use Rattle.std.proofs.Common.{◌≡◌, ◌++◌}
use Rattle.std.specs.Vec.{vec_capacity}
use Rattle.std.specs.Vec.Iter.{into_iter_items}
use Rattle.mac_pool.specs.Pool.{at_home}
use Rattle.mac_pool.proofs.passes.bring_home.Given as goal

abbrev pub invariant-loop-slot : goal.invariant-loop-slot
invariant-loop-slot g l = record {
  runs : (goal.iterator-loop-slot g).can_next l.slot-iterator;
  ends : (goal.iterator-loop-slot g).is_finite l.slot-iterator;
  capacity : vec_capacity l.all ≡ vec_capacity l.fn.all;
  done : l.all.items ++ at_home (into_iter_items l.slot-iterator) ≡ l.fn.all.items ++ at_home l.fn.slots.items;
}
