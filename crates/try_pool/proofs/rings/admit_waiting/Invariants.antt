-- The intake stays that of the same ring.
use Rattle.mac_order.specs.Ring.{IsSameIntake}
use Rattle.try_pool.proofs.rings.admit_waiting.Given as goal

abbrev pub invariant-loop : goal.invariant-loop
invariant-loop l = IsSameIntake l.initial.intake l.intake
