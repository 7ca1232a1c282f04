use Rattle.std.proofs.Common.{◌≡◌, length}
use Rattle.mac_decide.proofs.choosing.tally.Given as goal

abbrev pub invariant-loop-prepared : goal.invariant-loop-prepared
invariant-loop-prepared l = length l.tally ≡ 32
