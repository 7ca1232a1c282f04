use Rattle.std.proofs.Common.{◌≤◌}
use Rattle.mac_pool.specs.Pool.{IsStarted}
use Rattle.mac_pool.proofs.pool.Pool.start.Given as goal

abbrev pub invariant-loop : goal.invariant-loop
invariant-loop g l = record {
  started : IsStarted l.counter l.pool;
  below : l.counter ≤ l.workers;
}
