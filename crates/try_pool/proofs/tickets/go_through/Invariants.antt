use Rattle.std.proofs.Common.{◌≡◌}
use Rattle.try_pool.proofs.tickets.go_through.Given as goal

abbrev pub invariant-loop-run : goal.invariant-loop-run
invariant-loop-run g l = l.desk.putter.queue ≡ l.fn.desk.putter.queue
