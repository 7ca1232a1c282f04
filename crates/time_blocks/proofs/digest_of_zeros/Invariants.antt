use Rattle.std.proofs.Common.{◌*◌, replicate}
use Rattle.sha2.specs.Hashers.{Holds256}
use Rattle.time_blocks.proofs.digest_of_zeros.Given as goal

abbrev pub invariant-loop-fed : goal.invariant-loop-fed
invariant-loop-fed l = Holds256 l.hasher (replicate (64 * l.fed) 0)
