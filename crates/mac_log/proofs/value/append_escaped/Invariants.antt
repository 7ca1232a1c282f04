use Rattle.std.proofs.Common.{◌≡◌, ◌++◌, take}
use Rattle.mac_log.specs.Value.{escaped}
use Rattle.mac_log.proofs.value.append_escaped.Given as goal

abbrev pub invariant-loop-byte : goal.invariant-loop-byte
invariant-loop-byte l = l.out.items ≡ l.fn.out.items ++ escaped (take l.byte-index l.bytes)
