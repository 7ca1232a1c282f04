-- The slot is new, in no list, and the list has room for it.
use Rattle.std.proofs.Common.{◌∙◌, refl, ap, arith}
use Rattle.slab.specs.Slab.{Slab}
use Rattle.mac_slots.proofs.Views.{becomes}
use Rattle.mac_slots.proofs.Counts.{sound-reserved}
use Rattle.mac_slots.proofs.slots.Slots.reserve.Goals as goal

pub invariant_of-self-2 : goal.invariant_of-self-2
invariant_of-self-2 g c =
    let inside = c.self.inside in
    let kept = ap (λ (s : Slab _). s.slots) c.reserve.ensures.rest_kept in
    let told = c.insert_reserved-slot.ensures in
    let was = rw kept at told.was_vacant in
    rw c.in_ok-reserve-2.ensures.items
    (sound-reserved inside.slots.slots c.insert_reserved-slot.new.self.slots inside.ready.items _ _ c.insert_reserved-slot.result _ c.self.invariant was told.updates.changed refl
    (λ other apart. told.updates.others other apart ∙ rw kept refl)
    (omega (arith, told.len, c.in_ok-reserve.ensures.room, c.capacity-room.ensures.value, c.len.ensures, c.saturating_sub.ensures, c.in_ok-reserve-2.ensures.ok, c.in_ok-reserve-2.ensures.len)))

pub returns-clause-lent : goal.returns-clause-lent
returns-clause-lent g c =
    let inside = c.self.inside in
    let kept = ap (λ (s : Slab _). s.slots) c.reserve.ensures.rest_kept in
    let told = c.insert_reserved-slot.ensures in
    rw (← c.self.view_is)
    (becomes inside.slots.slots c.insert_reserved-slot.new.self.slots c.insert_reserved-slot.result _ inside.ready.items _ _ told.updates.changed (λ other apart. told.updates.others other apart ∙ rw kept refl) c.in_ok-reserve-2.ensures.items)
