use Rattle.std.proofs.Common.{◌≡◌, ◌≤◌, ◌+◌, ◌++◌, List, length, map}
use Rattle.std.specs.Slice.Iter.{iter_mut_rest}
use Rattle.mac_decide.specs.Prepared.{comes_to}
use Rattle.mac_decide.specs.Seen.{AreReady}
use Rattle.mac_wire.specs.declared.reply.Reply.{Reply}
use Rattle.mac_decide.proofs.side_by_side.prepare_all.Given as goal

-- what is prepared is ready, once what is left is; each has a room and a place
abbrev pub invariant-loop-room : goal.invariant-loop-room
invariant-loop-room l = record {
  ready : (others : List Reply) → AreReady l.room-iterator.b.rest.now others
      → AreReady l.sights (map comes_to l.run.items ++ others);
  rooms : length l.room-iterator.b.rest.now ≤ length (iter_mut_rest l.room-iterator.a);
  count : length l.run.items + length l.room-iterator.b.rest.now ≡ length l.sights;
}
