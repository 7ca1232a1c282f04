use Rattle.std.proofs.Common.{◌≡◌}
use Rattle.mac_sockets.specs.Entrance.{doors_of, taken_of}
use Rattle.mac_sockets.proofs.entrance.Entrance.await_next.Given as goal

-- no door is added, and none goes; nothing is counted
abbrev pub invariant-loop : goal.invariant-loop
invariant-loop g l =
    (doors_of l.self ≡ doors_of l.initial.self) × (taken_of l.self ≡ taken_of l.initial.self)
