-- The answers that wait stay as they were, and the new slip has a place.
use Rattle.std.proofs.Common.{sym, ◌∙◌, ap}
use Rattle.mac_order.specs.Buffer.{open_fault}
use Rattle.mac_order.proofs.Bounded.{bounded, bounded-opened}
use Rattle.mac_order.proofs.reorder.Reorder.open.Goals as goal

pub returns-in-Some-clause-bounded : goal.returns-in-Some-clause-bounded
returns-in-Some-clause-bounded g c = rw (← c.self.view_is) (bounded _ _ _ _ _ c.self.invariant)

pub returns-clause-bounded : goal.returns-clause-bounded
returns-clause-bounded g c =
    rw c.push_back_reserved.ensures.items
    (bounded-opened (bounded _ _ _ _ _ c.self.invariant) c.args.job (ap open_fault c.self.view_is ∙ sym c.open_fault.ensures ∙ c.in_default.is))
