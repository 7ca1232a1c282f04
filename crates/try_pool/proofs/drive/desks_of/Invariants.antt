use Rattle.std.proofs.Common.{◌≡◌}
use Rattle.try_pool.specs.Desks.{AreAt}
use Rattle.try_pool.proofs.drive.desks_of.Given as goal

abbrev pub invariant-loop : goal.invariant-loop
invariant-loop l = (l.pool.queue ≡ l.fn.pool.queue) × AreAt l.fn.pool.queue l.desks.items
