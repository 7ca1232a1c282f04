-- The first leaves the list, and a mark is not seen.
use Rattle.std.proofs.Common.{List, drop, sym, refl, ap}
use Rattle.mac_slots.specs.Slots.{Slot}
use Rattle.mac_slots.proofs.Views.{same_view}
use Rattle.mac_slots.proofs.slots.Slots.next_ready.Goals.{in-Some, in_default}
use Rattle.mac_slots.proofs.slots.Slots.next_ready.Goals as goal

pub returns-clause-rest : goal.returns-clause-rest
returns-clause-rest g c = elim c.match-get_mut.branch [
  | in-Some w ↦
      rw (w.self-inside-is, c.in_ok-slot.ensures.rest, ← c.self.view_is)
      (ap (λ (slots : List (Slot _)). record { slots = slots; ready = drop 1 c.self.inside.ready.items }) (same_view c.self.inside.slots.slots c.in_ok-slot.slot w.in-Some.owned.now _ (sym w.in-Some.ensures.value) refl))
  | in_default w ↦ rw (w.self-inside-is, c.in_ok-slot.ensures.rest, ← c.self.view_is) refl
]
