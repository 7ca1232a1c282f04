use Rattle.std.proofs.Common.{◌≡◌, ◌++◌}
use Rattle.mac_token.specs.Varint.{varint}
use Rattle.mac_token.proofs.varint.push_varint.Given as goal

-- what was written so far and the varint of the rest are the number's varint
abbrev pub invariant-loop-rest : goal.invariant-loop-rest
invariant-loop-rest l = l.out.items ++ varint l.rest ≡ l.fn.out.items ++ varint l.number

abbrev pub decreases-loop-rest : goal.decreases-loop-rest
decreases-loop-rest l = l.rest
