use Rattle.std.proofs.Common.{◌≡◌, ◌++◌, take}
use Rattle.mac_gate.proofs.flow.Trace.add_all.Given as goal

abbrev pub invariant-loop-byte : goal.invariant-loop-byte
invariant-loop-byte l = l.self.bytes ≡ l.initial.self.bytes ++ take l.byte-index l.bytes
