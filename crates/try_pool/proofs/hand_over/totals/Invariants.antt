-- Both ends stay those of the ring.
use Rattle.mac_order.specs.Ring.{IsRing}
use Rattle.try_pool.proofs.hand_over.totals.Given as goal

abbrev pub invariant-loop-job : goal.invariant-loop-job
invariant-loop-job l = IsRing l.intake l.outlet
