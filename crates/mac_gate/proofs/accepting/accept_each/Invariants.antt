use Rattle.std.proofs.Common.{◌≡◌}
use Rattle.mac_sockets.specs.Entrance.{doors_of}
use Rattle.mac_gate.proofs.accepting.accept_each.Given as goal

abbrev pub invariant-loop : goal.invariant-loop
invariant-loop g l = doors_of l.entrance ≡ doors_of l.fn.entrance
