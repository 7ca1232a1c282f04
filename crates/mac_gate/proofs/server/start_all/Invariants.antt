use Rattle.std.proofs.Common.{◌≡◌, ◌++◌, map}
use Rattle.std.specs.Vec.Iter.{into_iter_items}
use Rattle.mac_gate.proofs.server.start_all.Given as goal

abbrev pub invariant-loop-one : goal.invariant-loop-one
invariant-loop-one g l = record {
  runs : (goal.iterator-loop-one g).can_next l.one-iterator;
  ends : (goal.iterator-loop-one g).is_finite l.one-iterator;
  done : map (λ looping. looping.promise.offer.value) l.loops.items ++ map (λ one. one.offer.value) (into_iter_items l.one-iterator) ≡ map (λ one. one.offer.value) l.fn.made.items;
}
