-- The connections of a loop, by their slots.
use Rattle.std.specs.Prelude.{ℕ, Option, None, Some, sum_by}
use Rattle.mac_slots.specs.Slots.{Slot, Slots, Free, Lent, Held, at, held}

module _ {C : Type 0} where
  -- what a slot weighs: as much as its connection, and nothing where it holds none
  abbrev pub weight_of : (C → ℕ) → Slot C → ℕ
  weight_of weight Free = 0
  weight_of weight Lent = 0
  weight_of weight (Held connection) = weight connection

  -- what the connections in slots weigh together
  abbrev pub weighed : (C → ℕ) → Slots C → ℕ
  weighed weight slots = sum_by (λ slot. weight_of weight slot) slots.slots

  -- how many slots hold one: there each weighs one
  abbrev pub count_held : Slots C → ℕ
  count_held slots = weighed (λ connection. 1) slots

  -- a connection is there exactly where one was, and is like whatever that one was like
  abbrev pub IsStillAlike : (C → C → Type 0) → Option C → Option C → Type 0
  IsStillAlike alike None None = Unit {0}
  IsStillAlike alike None (Some new) = ⊥
  IsStillAlike alike (Some old) None = ⊥
  IsStillAlike alike (Some old) (Some new) = (one : C) → alike one old → alike one new

  -- that of each slot
  abbrev pub StayAlike : (C → C → Type 0) → Slots C → Slots C → Type 0
  StayAlike alike old new = (slot : ℕ) → IsStillAlike alike (held (at old slot)) (held (at new slot))
