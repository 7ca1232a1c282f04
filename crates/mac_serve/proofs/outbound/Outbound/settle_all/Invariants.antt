use Rattle.std.specs.Prelude.{Ok}
use Rattle.mac_serve.specs.Sending.{StepsAlone}
use Rattle.mac_serve.proofs.outbound.Outbound.settle_all.Given as goal

abbrev pub invariant-loop : goal.invariant-loop
invariant-loop g l =
    (goal.iterator-loop g).can_next l.iterator' × (goal.iterator-loop g).is_finite l.iterator' × StepsAlone (Ok (tt {0})) l.initial.self l.self
