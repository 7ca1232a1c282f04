use Rattle.std.proofs.Common.{◌≡◌}
use Rattle.mac_gate.proofs.looping.HttpLoop.sweep.Given as goal

abbrev pub invariant-loop-slot : goal.invariant-loop-slot
invariant-loop-slot g l = l.self.offer ≡ l.fn.self.offer
