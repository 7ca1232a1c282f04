use Rattle.std.proofs.Common.{◌≡◌, ◌++◌, take}
use Rattle.mac_loop.proofs.port.add_all.Given as goal

abbrev pub invariant-loop-byte : goal.invariant-loop-byte
invariant-loop-byte l = l.history ≡ l.initial.history ++ take l.byte-index l.bytes
