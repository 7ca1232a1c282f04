-- What is only read stays bounded.
use Rattle.mac_order.proofs.Bounded.{bounded}
use Rattle.mac_order.proofs.reorder.Reorder.open_slips.Goals as goal

pub returns-clause-bounded : goal.returns-clause-bounded
returns-clause-bounded g c = rw (← c.self.view_is) (bounded _ _ _ _ _ c.self.invariant)
