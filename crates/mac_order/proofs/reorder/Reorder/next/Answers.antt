-- A buffer that stays as it was stays bounded.
use Rattle.mac_order.proofs.Bounded.{bounded}
use Rattle.mac_order.proofs.reorder.Reorder.next.Goals as goal

pub returns-then-self-clause-bounded : goal.returns-then-self-clause-bounded
returns-then-self-clause-bounded g c = rw (← c.self.view_is) (bounded _ _ _ _ _ c.self.invariant)

pub returns-in_default-clause-bounded : goal.returns-in_default-clause-bounded
returns-in_default-clause-bounded g c = rw (← c.self.view_is) (bounded _ _ _ _ _ c.self.invariant)

pub returns-in_default-answer_at-clause-bounded : goal.returns-in_default-answer_at-clause-bounded
returns-in_default-answer_at-clause-bounded g c = rw (← c.self.view_is) (bounded _ _ _ _ _ c.self.invariant)
