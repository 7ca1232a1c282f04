use Rattle.std.proofs.Common.{◌≡◌, length}
use Rattle.try_pool.specs.Desks.{AreAt}
use Rattle.try_pool.proofs.drive.all_home.Given as goal

abbrev pub invariant-loop-desk : goal.invariant-loop-desk
invariant-loop-desk l = (l.pool.queue ≡ l.fn.pool.queue) × AreAt l.fn.pool.queue l.desks.items

abbrev pub decreases-loop-desk : goal.decreases-loop-desk
decreases-loop-desk l = length l.desks.items
