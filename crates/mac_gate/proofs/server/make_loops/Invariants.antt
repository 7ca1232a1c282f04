use Rattle.std.proofs.Common.{◌≡◌, ◌++◌, map}
use Rattle.std.specs.Vec.Iter.{into_iter_items}
use Rattle.mac_gate.specs.Offered.{offers_of}
use Rattle.mac_gate.proofs.server.make_loops.Given as goal

abbrev pub invariant-loop-content : goal.invariant-loop-content
invariant-loop-content g l = record {
  runs : (goal.iterator-loop-content g).can_next l.content-iterator;
  ends : (goal.iterator-loop-content g).is_finite l.content-iterator;
  done : map (λ one. one.offer.value) l.made.items ++ offers_of (into_iter_items l.content-iterator) ≡ offers_of l.fn.contents.items;
}
