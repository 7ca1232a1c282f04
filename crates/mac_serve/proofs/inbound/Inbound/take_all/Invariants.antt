use Rattle.std.proofs.Common.{◌≡◌, ℕ, List}
use Rattle.mac_board.specs.Noticed.{Noticed}
use Rattle.mac_wire.specs.declared.version.Version.{Version}
use Rattle.mac_serve.specs.declared.inbound.Inbound.{Inbound}
use Rattle.mac_serve.specs.Receiving.{IsSameHalf, Past, GoesOn, TakesUnder}
use Rattle.mac_serve.proofs.inbound.Inbound.take_all.Given as goal

-- the stream goes on: no failure was counted, and the jobs of what came before these arrivals were taken in
abbrev pub invariant-loop : goal.invariant-loop
invariant-loop g l =
    (goal.iterator-loop g).can_next l.iterator' × (goal.iterator-loop g).is_finite l.iterator'
    × IsSameHalf l.initial.self l.self
    × (g.In.Source.faults l.source ≡ g.In.Source.faults l.initial.source)
    × ((begun : Noticed) (version : Version) (past : Past) (given : List ℕ) (start : Inbound)
    → GoesOn g.In.Source.tells (TakesUnder l.rights g.K.Outlook.tells begun (g.K.Outlook.known l.initial.outlook)) version past given (g.In.Source.taken l.initial.source) l.initial.incoming.reader
    l.initial.arrivals.items start l.initial.self
    → GoesOn g.In.Source.tells (TakesUnder l.rights g.K.Outlook.tells begun (g.K.Outlook.known l.outlook)) version past given (g.In.Source.taken l.source) l.incoming.reader l.arrivals.items start l.self)
