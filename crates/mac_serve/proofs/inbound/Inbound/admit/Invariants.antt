use Rattle.std.proofs.Common.{◌≡◌}
use Rattle.mac_order.specs.Ring.{admitted, IsSameIntake}
use Rattle.mac_serve.proofs.inbound.Inbound.admit.Given as goal

abbrev pub invariant-loop : goal.invariant-loop
invariant-loop g l =
    (goal.iterator-loop g).can_next l.iterator' × (goal.iterator-loop g).is_finite l.iterator'
    × IsSameIntake l.initial.self.ring l.self.ring
    × (admitted l.self.ring ≡ admitted l.initial.self.ring)
    × (l.self.putter ≡ l.initial.self.putter)
    × (l.job ≡ l.initial.job)
