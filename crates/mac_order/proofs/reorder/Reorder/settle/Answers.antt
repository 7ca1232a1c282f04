-- To write the slot of the place is to insert its answer.
use Rattle.std.proofs.Common.{◌≡◌, length, refl, sym, ◌∙◌, ap}
use Rattle.mac_order.specs.Buffer.{Buffer, settle_fault}
use Rattle.mac_order.specs.Slots.{lies_as}
use Rattle.mac_order.specs.declared.reorder.TheConstants.{SLOTS}
use Rattle.mac_order.proofs.Waiting.{answers_in-set}
use Rattle.mac_order.proofs.Faults.{settle_fault-none}
use Rattle.mac_order.proofs.Bounded.{bounded, bounded-settled}
use Rattle.mac_order.proofs.reorder.Reorder.settle.Goals as goal

pub returns-in-Some-clause-bounded : goal.returns-in-Some-clause-bounded
returns-in-Some-clause-bounded g c = rw (← c.self.view_is) (bounded _ _ _ _ _ c.self.invariant)

pub returns-clause-settled : goal.returns-clause-settled
returns-clause-settled g c =
    let inside = c.self.inside in
    let old = bounded _ _ _ _ _ c.self.invariant in
    let none = ap (λ (buffer : Buffer _). settle_fault buffer c.args.place) c.self.view_is ∙ sym c.settle_fault.ensures ∙ c.in_default.is in
    let settleable = settle_fault-none (lies_as inside.next inside.slips.items inside.answers.items inside.closed) c.args.place none in
    let full : length inside.answers.items ≡ SLOTS = c.self.invariant.slots_fit ∙ rw settleable.live refl in
    rw (c.slot_of.ensures, answers_in-set inside.answers.items inside.next full c.args.place c.args.answer settleable.from settleable.to, ← c.self.view_is) refl

pub returns-clause-bounded : goal.returns-clause-bounded
returns-clause-bounded g c =
    let inside = c.self.inside in
    let old = bounded _ _ _ _ _ c.self.invariant in
    let none = ap (λ (buffer : Buffer _). settle_fault buffer c.args.place) c.self.view_is ∙ sym c.settle_fault.ensures ∙ c.in_default.is in
    let settleable = settle_fault-none (lies_as inside.next inside.slips.items inside.answers.items inside.closed) c.args.place none in
    let full : length inside.answers.items ≡ SLOTS = c.self.invariant.slots_fit ∙ rw settleable.live refl in
    rw (c.slot_of.ensures, answers_in-set inside.answers.items inside.next full c.args.place c.args.answer settleable.from settleable.to)
    (bounded-settled old c.args.place c.args.answer none)
