use Rattle.std.proofs.Common.{◌≡◌, ◌≤◌, ◌-◌, ◌++◌, take, length, IsTrue}
use Rattle.mac_wire.proofs.send.send_all.Given as goal

-- the first bytes went out, and no write has failed
abbrev pub invariant-loop-sent : goal.invariant-loop-sent
invariant-loop-sent g l = (l.sent ≤ length l.bytes)
    × (g.W.Sink.faults l.sink ≡ g.W.Sink.faults l.initial.sink)
    × (IsTrue g.W.Sink.tells → g.W.Sink.written l.sink ≡ g.W.Sink.written l.initial.sink ++ take l.sent l.bytes)

abbrev pub decreases-loop-sent : goal.decreases-loop-sent
decreases-loop-sent g l = length l.bytes - l.sent
