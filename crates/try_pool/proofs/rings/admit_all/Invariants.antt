-- The intake stays that of the same ring.
use Rattle.mac_order.specs.Ring.{IsSameIntake}
use Rattle.try_pool.proofs.rings.admit_all.Given as goal

abbrev pub invariant-loop-job : goal.invariant-loop-job
invariant-loop-job l = IsSameIntake l.initial.intake l.intake
