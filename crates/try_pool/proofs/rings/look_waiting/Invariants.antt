-- The outlet stays that of the same ring.
use Rattle.mac_order.specs.Ring.{IsSameOutlet}
use Rattle.try_pool.proofs.rings.look_waiting.Given as goal

abbrev pub invariant-loop : goal.invariant-loop
invariant-loop l = IsSameOutlet l.initial.outlet l.outlet
