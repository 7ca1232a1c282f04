use Rattle.std.proofs.Common.{◌≡◌, length}
use Rattle.mac_decide.proofs.choosing.Group.places.Given as goal

abbrev pub invariant-loop-place : goal.invariant-loop-place
invariant-loop-place l = length l.places ≡ 8
