-- What connections end as, where one is lent to be changed in its place.
use Rattle.std.specs.Prelude.{ℕ, Option}
use Rattle.std.specs.Borrow.{LendsIf, Fml, RattleType, MutBor}
use Rattle.mac_slots.specs.Slots.{with_held}
use Rattle.mac_sockets.specs.contracts.connections.Connections.{the_row}
use Rattle.mac_sockets.specs.declared.connections.Connections.{Connections}

-- once the borrow ends, the slot holds the connection as it was left, and nothing else changed
abbrev pub lends_connection : (C : RattleType) → MutBor (Connections C.Denot) → ℕ → Option (MutBor C.Denot) → Fml
lends_connection C s slot r = LendsIf (the_row C) C s r
    (λ connection. record s.now { slots = with_held s.now.slots slot connection }) s.now
