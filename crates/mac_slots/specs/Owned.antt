-- How slots are laid out. No public clause cites this module.
use Rattle.std.specs.Prelude.{◌≡◌, ℕ, ◌≤◌, Bool, false, if◌then◌else◌, List, length, Option, None, Some, is_some, count_by, slice_index_or}
use Rattle.mac_slots.specs.Slots.{Slot, Free, Lent, Held, times}
use Rattle.mac_slots.specs.declared.slots.Owned.{Owned}

module _ {C : Type 0} where
  -- what a slot of somebody's is
  abbrev pub lent_or_held : Option C → Slot C
  lent_or_held None = Lent
  lent_or_held (Some connection) = Held connection

  -- what a slot is
  abbrev pub slot_of : Option (Owned C) → Slot C
  slot_of None = Free
  slot_of (Some owned) = lent_or_held owned.connection

  -- whether a slot is marked as listed
  abbrev pub is_marked : Option (Owned C) → Bool
  is_marked None = false
  is_marked (Some owned) = owned.is_listed

  -- a slot is in the list once where it is marked and else never, the list is as long as there are
  -- marks, and has room for all slots that are somebody's
  pub record IsSound (slots : List (Option (Owned C))) (ready : List ℕ) (room : ℕ) : Type 0 where
    pub once : (slot : ℕ) → times slot ready ≡ (if is_marked (slice_index_or slots slot None) then 1 else 0)
    pub counted : length ready ≡ count_by is_marked slots
    pub fits : count_by is_some slots ≤ room
