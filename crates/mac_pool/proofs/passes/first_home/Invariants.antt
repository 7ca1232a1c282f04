use Rattle.mac_pool.specs.Pool.{AreOut}
use Rattle.mac_pool.proofs.passes.first_home.Given as goal

abbrev pub invariant-loop-number : goal.invariant-loop-number
invariant-loop-number g l = AreOut l.from l.number l.slots.items
