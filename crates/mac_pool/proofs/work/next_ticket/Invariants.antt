use Rattle.std.proofs.Common.{◌≡◌}
use Rattle.mac_pool.proofs.work.next_ticket.Given as goal

abbrev pub invariant-loop : goal.invariant-loop
invariant-loop g l = l.pass ≡ l.fn.pass
