use Rattle.try_pool.specs.Desks.{AreMoved}
use Rattle.try_pool.proofs.hammer.hammer.Given as goal

abbrev pub invariant-loop-round : goal.invariant-loop-round
invariant-loop-round g l = AreMoved l.fn.desks.items l.desks.items
