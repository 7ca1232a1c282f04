-- The slot is nobody's, and the list is without it.
use Rattle.std.proofs.Common.{◌∙◌, sym, refl, None}
use Rattle.mac_slots.proofs.Views.{becomes}
use Rattle.mac_slots.proofs.Counts.{sound-released, without_none}
use Rattle.mac_slots.proofs.slots.Slots.release.Goals as goal

pub invariant_of-self-then-owned : goal.invariant_of-self-then-owned
invariant_of-self-then-owned g c =
    let told = c.in_ok-owned.ensures in
    rw (c.unlist.ensures.ready, c.unlist.ensures.room, told.slots)
    (sound-released c.self.inside.slots.slots c.self.inside.ready.items _ c.args.slot c.in_ok-owned.owned c.self.invariant (sym told.value))

pub returns-in_err-owned-clause-free : goal.returns-in_err-owned-clause-free
returns-in_err-owned-clause-free g c =
    let inside = c.self.inside in
    let told = c.in_err-owned.ensures in
    let none = c.self.invariant.once c.args.slot ∙ rw (← told.value) refl in
    rw (← c.self.view_is)
    (becomes inside.slots.slots c.try_remove.new.self.slots c.args.slot None inside.ready.items inside.ready.items _ told.updates.changed told.updates.others (sym (without_none inside.ready.items c.args.slot none)))

pub returns-then-owned-clause-free : goal.returns-then-owned-clause-free
returns-then-owned-clause-free g c =
    let inside = c.self.inside in
    let told = c.in_ok-owned.ensures in
    rw (← c.self.view_is)
    (becomes inside.slots.slots c.try_remove.new.self.slots c.args.slot None inside.ready.items _ _ told.updates.changed told.updates.others c.unlist.ensures.ready)

pub returns-else-owned-clause-free : goal.returns-else-owned-clause-free
returns-else-owned-clause-free g c =
    let inside = c.self.inside in
    let told = c.in_ok-owned.ensures in
    let none = c.self.invariant.once c.args.slot ∙ rw (← told.value, c.if-owned.false) refl in
    rw (← c.self.view_is)
    (becomes inside.slots.slots c.try_remove.new.self.slots c.args.slot None inside.ready.items inside.ready.items _ told.updates.changed told.updates.others (sym (without_none inside.ready.items c.args.slot none)))
