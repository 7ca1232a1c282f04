-- A closed buffer has no slots, so that no answer waits.
use Rattle.std.proofs.Common.{refl}
use Rattle.mac_order.proofs.Waiting.{answers_in-empty}
use Rattle.mac_order.proofs.Bounded.{bounded, bounded-closed_off}
use Rattle.mac_order.proofs.reorder.Reorder.close.Goals as goal

pub returns-clause-closed : goal.returns-clause-closed
returns-clause-closed g c = rw (c.clear.ensures.items, c.clear-2.ensures.items, answers_in-empty, ← c.self.view_is) refl

pub returns-clause-bounded : goal.returns-clause-bounded
returns-clause-bounded g c =
    rw (c.clear.ensures.items, c.clear-2.ensures.items, answers_in-empty) (bounded-closed_off (bounded _ _ _ _ _ c.self.invariant))
