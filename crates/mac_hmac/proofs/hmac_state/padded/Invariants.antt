use Rattle.std.proofs.Common.{◌≡◌, ◌++◌, ◌-◌, map, take, replicate}
use Rattle.std.specs.Int.Bits.{bit_xor}
use Rattle.mac_hmac.proofs.hmac_state.padded.Given as goal

abbrev pub invariant-loop-i : goal.invariant-loop-i
invariant-loop-i l = l.block ≡ map (λ byte. bit_xor byte l.pad) (take l.i l.key) ++ replicate (64 - l.i) l.pad
