use Rattle.std.specs.Prelude.{Ok}
use Rattle.mac_serve.specs.Sending.{Steps}
use Rattle.mac_serve.proofs.outbound.Outbound.release_all.Given as goal

abbrev pub invariant-loop : goal.invariant-loop
invariant-loop g l =
    (goal.iterator-loop g).can_next l.iterator' × (goal.iterator-loop g).is_finite l.iterator'
    × Steps g.W.Sink.tells (g.W.Sink.written l.initial.sink) (g.W.Sink.written l.sink) (g.W.Sink.faults l.initial.sink) (g.W.Sink.faults l.sink) (Ok (tt {0})) l.initial.self l.self
