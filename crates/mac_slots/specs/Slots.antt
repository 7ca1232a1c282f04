-- The slots of a loop, as contracts see them, and what each call makes of them.
use Rattle.std.specs.Prelude.{◌≡◌, ◌≢◌, ℕ, Bool, true, false, ◌==◌, ◌||◌, not, if◌then◌else◌, nat_lt, List, [], ◌∷◌, ◌++◌, Option, None, Some, count_by, slice_index_or, slice_set}
use Rattle.std.specs.List.{filter}

-- what a slot is: free, somebody's whose connection is lent out or still to come, or somebody's who
-- is in it
pub data Slot (C : Type 0) : Type 0 where
  Free : Slot C
  Lent : Slot C
  Held : C → Slot C

-- what each slot is, by its number from 0 on, and the slots that are ready, the next one first
pub record Slots (C : Type 0) : Type 0 where
  pub slots : List (Slot C)
  pub ready : List ℕ

-- how many times a slot is in a list
abbrev pub times : ℕ → List ℕ → ℕ
times slot ready = count_by (λ other. other == slot) ready

-- a list without a slot
abbrev pub without : List ℕ → ℕ → List ℕ
without ready slot = filter (λ other. not (other == slot)) ready

module _ {C : Type 0} where
  -- the slots at the start
  abbrev pub no_slots : Slots C
  no_slots = record { slots = []; ready = [] }

  -- what a slot is: one that was never reserved is free
  abbrev pub at : Slots C → ℕ → Slot C
  at s slot = slice_index_or s.slots slot Free

  -- the slot is nobody's
  abbrev pub is_free : Slot C → Bool
  is_free Free = true
  is_free Lent = false
  is_free (Held _) = false

  -- the connection that is in a slot
  abbrev pub held : Slot C → Option C
  held Free = None
  held Lent = None
  held (Held connection) = Some connection

  -- the slots once another connection is in one of them
  abbrev pub with_held : Slots C → ℕ → C → Slots C
  with_held s slot connection = record s { slots = slice_set s.slots slot (Held connection) }

  -- a slot of somebody's is put behind those that are ready, unless it is one of them
  abbrev pub with_listed : Slots C → ℕ → Slots C
  with_listed s slot =
      if is_free (at s slot) || nat_lt 0 (times slot s.ready) then s
      else record s { ready = s.ready ++ slot ∷ [] }

  -- one slot became this, every other slot is what it was, and these are ready
  pub record Becomes (old new : Slots C) (slot : ℕ) (is : Slot C) (ready : List ℕ) : Type 0 where
    pub this : at new slot ≡ is
    pub others : (other : ℕ) → other ≢ slot → at new other ≡ at old other
    pub listed : new.ready ≡ ready
