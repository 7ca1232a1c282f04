use Rattle.std.proofs.Common.{◌≡◌}
use Rattle.try_pool.proofs.drive.put_waiting.Given as goal

abbrev pub invariant-loop : goal.invariant-loop
invariant-loop g l = l.putter ≡ l.fn.putter
