use Rattle.std.proofs.Common.{◌≡◌}
use Rattle.mac_queue.proofs.taker.Taker.wait.Given as goal

abbrev pub invariant-loop : goal.invariant-loop
invariant-loop g l = l.self ≡ l.fn.self
