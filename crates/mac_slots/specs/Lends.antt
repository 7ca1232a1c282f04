-- What the slots end as, where a connection is lent to be changed in its place.
use Rattle.std.specs.Prelude.{ℕ, Option}
use Rattle.std.specs.Borrow.{LendsIf, Fml, RattleType, MutBor}
use Rattle.mac_slots.specs.Slots.{Slots, with_held}
use Rattle.mac_slots.specs.contracts.slots.Slots.{the_row}

-- once the borrow ends, the slot holds the connection as it was left, and nothing else changed
abbrev pub lends_held : (C : RattleType) → MutBor (Slots C.Denot) → ℕ → Option (MutBor C.Denot) → Fml
lends_held C s slot r = LendsIf (the_row C) C s r (with_held s.now slot) s.now
