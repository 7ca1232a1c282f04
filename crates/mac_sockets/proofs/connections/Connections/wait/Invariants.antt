use Rattle.std.proofs.Common.{◌≡◌}
use Rattle.mac_sockets.specs.Connections.{StayAlike, count_held, weighed}
use Rattle.mac_sockets.proofs.connections.Connections.wait.Given as goal

abbrev pub invariant-loop-event : goal.invariant-loop-event
invariant-loop-event g l = record {
  count : count_held l.self.1.0 ≡ count_held l.fn.self.slots;
  weight : weighed g.C.Wakes.weight l.self.1.0 ≡ weighed g.C.Wakes.weight l.fn.self.slots;
  alike : StayAlike g.C.Wakes.alike l.fn.self.slots l.self.1.0;
}
