use Rattle.std.proofs.Common.{◌≡◌}
use Rattle.try_pool.proofs.rows.claims_by.Given as goal

abbrev pub invariant-loop : goal.invariant-loop
invariant-loop g l = l.pass.queue ≡ l.queue.tickets
