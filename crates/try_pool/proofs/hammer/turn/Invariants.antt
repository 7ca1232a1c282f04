use Rattle.std.proofs.Common.{◌≡◌, length}
use Rattle.try_pool.specs.Desks.{AreMoved}
use Rattle.try_pool.proofs.hammer.turn.Given as goal

abbrev pub invariant-loop-number : goal.invariant-loop-number
invariant-loop-number g l = AreMoved l.fn.desks.items l.desks.items × (length l.desks.items ≡ length l.fn.desks.items)

abbrev pub invariant-loop-number-2 : goal.invariant-loop-number-2
invariant-loop-number-2 g l = AreMoved l.fn.desks.items l.desks.items × (length l.desks.items ≡ length l.fn.desks.items)
