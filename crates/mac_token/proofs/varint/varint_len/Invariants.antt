use Rattle.std.proofs.Common.{◌≡◌, ◌+◌, ◌<◌, ◌^◌, length}
use Rattle.mac_token.specs.Varint.{varint}
use Rattle.mac_token.proofs.varint.varint_len.Given as goal

-- the bytes counted so far and those of the rest, whose first is counted already
abbrev pub invariant-loop-rest : goal.invariant-loop-rest
invariant-loop-rest l = record {
  whole : l.len + length (varint l.rest) ≡ length (varint l.number) + 1;
  fits : l.number < 2 ^ 64;
}

abbrev pub decreases-loop-rest : goal.decreases-loop-rest
decreases-loop-rest l = l.rest
