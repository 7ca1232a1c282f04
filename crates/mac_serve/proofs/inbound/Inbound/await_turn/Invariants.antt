use Rattle.std.proofs.Common.{◌≡◌}
use Rattle.mac_serve.proofs.inbound.Inbound.await_turn.Given as goal

abbrev pub invariant-loop : goal.invariant-loop
invariant-loop g l =
    (goal.iterator-loop g).can_next l.iterator' × (goal.iterator-loop g).is_finite l.iterator'
    × (l.self.ring ≡ l.initial.self.ring)
    × (l.self.putter ≡ l.initial.self.putter)
