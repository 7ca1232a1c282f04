use Rattle.std.proofs.Common.{◌≡◌}
use Rattle.try_pool.proofs.drive.put_run.Given as goal

abbrev pub invariant-loop-number : goal.invariant-loop-number
invariant-loop-number g l = l.putter.queue ≡ l.fn.putter.queue
