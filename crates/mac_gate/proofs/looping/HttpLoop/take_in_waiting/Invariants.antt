use Rattle.std.proofs.Common.{◌≡◌}
use Rattle.mac_gate.proofs.looping.HttpLoop.take_in_waiting.Given as goal

abbrev pub invariant-loop-count : goal.invariant-loop-count
invariant-loop-count g l = l.self.offer ≡ l.fn.self.offer
