use Rattle.std.proofs.Common.{◌≡◌}
use Rattle.try_serve.proofs.false_worker.next_ticket.Given as goal

abbrev pub invariant-loop : goal.invariant-loop
invariant-loop g l = l.pass.queue ≡ l.fn.pass.queue
