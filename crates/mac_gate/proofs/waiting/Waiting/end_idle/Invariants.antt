use Rattle.mac_gate.specs.Going.{KeepTheirs}
use Rattle.mac_gate.proofs.waiting.Waiting.end_idle.Given as goal

abbrev pub invariant-loop-slot : goal.invariant-loop-slot
invariant-loop-slot l = KeepTheirs l.fn.self.connections.slots l.self.connections.slots
