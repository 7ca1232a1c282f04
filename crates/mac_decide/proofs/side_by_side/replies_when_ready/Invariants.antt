use Rattle.std.proofs.Common.{◌≡◌, ◌≤◌, ◌+◌, ◌++◌, length, map}
use Rattle.mac_decide.specs.Prepared.{comes_to}
use Rattle.mac_decide.specs.Seen.{AreReady, due_of}
use Rattle.mac_decide.proofs.side_by_side.replies_when_ready.Given as goal

-- the replies so far, and those to what is left, are all; what is left is ready, and has a place
-- each
abbrev pub invariant-loop-sight : goal.invariant-loop-sight
invariant-loop-sight l = record {
  replies : l.replies.items ++ map due_of l.sight-iterator.a ≡ map due_of l.fn.sights.items;
  ready : AreReady l.sight-iterator.a (map comes_to l.sight-iterator.b);
  enough : length l.sight-iterator.a ≤ length l.sight-iterator.b;
  places : length l.replies.items + length l.sight-iterator.a ≤ 32;
}
