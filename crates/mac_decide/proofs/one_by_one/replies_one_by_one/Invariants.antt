use Rattle.std.proofs.Common.{◌≡◌, ◌≤◌, ◌+◌, ◌++◌, length, map}
use Rattle.std.specs.Slice.Iter.{iter_mut_rest}
use Rattle.mac_decide.specs.Seen.{due_of}
use Rattle.mac_decide.proofs.one_by_one.replies_one_by_one.Given as goal

-- the replies so far, and those to what is left, are all; each has a room and a place
abbrev pub invariant-loop-room : goal.invariant-loop-room
invariant-loop-room l = record {
  replies : l.replies.items ++ map due_of l.room-iterator.b ≡ map due_of l.fn.sights.items;
  rooms : length l.room-iterator.b ≤ length (iter_mut_rest l.room-iterator.a);
  places : length l.replies.items + length l.room-iterator.b ≤ 32;
}
