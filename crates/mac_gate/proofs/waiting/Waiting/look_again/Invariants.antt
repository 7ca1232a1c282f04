use Rattle.mac_gate.specs.Going.{KeepTheirs}
use Rattle.mac_gate.proofs.waiting.Waiting.look_again.Given as goal

abbrev pub invariant-loop : goal.invariant-loop
invariant-loop l = KeepTheirs l.fn.self.connections.slots l.self.connections.slots
