-- The doors of an entrance, and which of them a connection came in through.
use Rattle.std.specs.Prelude.{◌≡◌, ◌+◌, ◌-◌, ◌^◌, ◌<◌, ◌≤◌, ℕ, Bool, false, List, Option, Some, None, Result, Ok, Err, MatchOption, length, map, min, slice_get}
use Rattle.mac_sockets.specs.declared.door.Door.{Door}
use Rattle.mac_sockets.specs.declared.doors.Doors.{Doors}
use Rattle.mac_sockets.specs.declared.entrance.Arrived.{Arrived}
use Rattle.mac_sockets.specs.declared.entrance.Entrance.{Entrance}

module _ {G : Type 0} where
  -- what the connections of a door are given
  abbrev pub gift_of : Door G → G
  gift_of door = door.gift

  -- whether another process has a door too
  abbrev pub shared_of : Door G → Bool
  shared_of door = door.is_shared

  -- the doors that were opened, in order
  abbrev pub opened : Doors G → List (Door G)
  opened doors = doors.doors.items

  -- what the connections of each of them are given
  abbrev pub gifts_of : Doors G → List G
  gifts_of doors = map gift_of (opened doors)

  -- the doors of an entrance, in the order of their numbers
  abbrev pub doors_of : Entrance G → List (Door G)
  doors_of entrance = entrance.doors.items

  -- how many connections have come in through an entrance
  abbrev pub taken_of : Entrance G → ℕ
  taken_of entrance = entrance.taken

  -- the door of this number gives this
  abbrev pub IsGiftAt : List (Door G) → ℕ → G → Type 0
  IsGiftAt doors number gift = MatchOption (slice_get doors number) ⊥ (λ door. door.gift ≡ gift)

  -- a connection came in through one of the doors, if one came
  abbrev pub IsThroughOneOf : {E : Type 0} → List (Door G) → Option (Result Arrived E) → Type 0
  IsThroughOneOf doors None = Unit {0}
  IsThroughOneOf doors (Some (Err fault)) = Unit {0}
  IsThroughOneOf doors (Some (Ok arrived)) = arrived.door < length doors

  -- a connection came in through one of the doors that no other process has, if one came
  abbrev pub IsThroughOwn : {E : Type 0} → List (Door G) → Option (Result Arrived E) → Type 0
  IsThroughOwn doors None = Unit {0}
  IsThroughOwn doors (Some (Err fault)) = Unit {0}
  IsThroughOwn doors (Some (Ok arrived)) =
      MatchOption (slice_get doors arrived.door) ⊥ (λ door. door.is_shared ≡ false)

-- of the connections that an entrance still takes once it is shut: one less where one came, and none
-- behind a fault
abbrev pub CountsDown : {E : Type 0} → Option (Result Arrived E) → ℕ → ℕ → Type 0
CountsDown None before after = after ≤ before
CountsDown (Some (Err fault)) before after = after ≡ 0
CountsDown (Some (Ok arrived)) before after = after + 1 ≡ before

-- one more was counted where a connection came in, as far as 64 bits go, and else none
abbrev pub CountsArrived : {E : Type 0} → Option (Result Arrived E) → ℕ → ℕ → Type 0
CountsArrived None before after = after ≡ before
CountsArrived (Some (Err fault)) before after = after ≡ before
CountsArrived (Some (Ok arrived)) before after = after ≡ min (before + 1) (2 ^ 64 - 1)
