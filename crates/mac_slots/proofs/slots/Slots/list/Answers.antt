-- Who is not listed yet has room in the list, and a mark is not seen.
use Rattle.std.proofs.Common.{◌∙◌, List, [], ◌∷◌, ◌++◌, sym, refl, ap}
use Rattle.mac_slots.specs.Slots.{Slot}
use Rattle.mac_slots.proofs.Views.{same_view}
use Rattle.mac_slots.proofs.Counts.{room_to_list, with_listed-new}
use Rattle.mac_slots.proofs.slots.Slots.list.Goals as goal

pub push_back_reserved-requires : goal.push_back_reserved-requires
push_back_reserved-requires g c =
    rw c.self.inside.ready.ok.0
    (room_to_list c.self.inside.slots.slots c.self.inside.ready.items _ c.args.slot c.in-Some.owned.now c.self.invariant (sym c.in-Some.ensures.value) c.if-not-owned.true)

pub returns-then-not-owned : goal.returns-then-not-owned
returns-then-not-owned g c =
    let inside = c.self.inside in
    let found = sym c.in-Some.ensures.value in
    rw (c.push_back_reserved.ensures.items, ← c.self.view_is)
    (ap (λ (slots : List (Slot _)). record { slots = slots; ready = inside.ready.items ++ c.args.slot ∷ [] }) (same_view inside.slots.slots c.args.slot c.in-Some.owned.now _ found refl)
    ∙ sym (with_listed-new inside.slots.slots inside.ready.items _ c.args.slot c.in-Some.owned.now c.self.invariant found c.if-not-owned.true))
