use Rattle.std.proofs.Common.{◌*◌}
use Rattle.sha2.specs.Sha256.{IsRoundsAt}
use Rattle.sha256x8.proofs.block.compress_one.Given as goal

abbrev pub invariant-turns : goal.invariant-turns
invariant-turns l = IsRoundsAt l.block l.hash l.w l.v (16 * l.turn)
