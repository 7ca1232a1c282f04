use Rattle.std.proofs.Common.{◌≡◌}
use Rattle.mac_sockets.proofs.entrance.Entrance.try_doors.Given as goal

-- no door is added, and none goes; nothing is counted
abbrev pub invariant-loop : goal.invariant-loop
invariant-loop g l =
    (l.self.doors ≡ l.initial.self.doors) × (l.self.waiting ≡ l.initial.self.waiting)
    × (l.self.taken ≡ l.initial.self.taken)
