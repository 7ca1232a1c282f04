use Rattle.std.proofs.Common.{◌≡◌, ◌≤◌, length, take}
use Rattle.mac_pool.specs.Pool.{at_home}
use Rattle.mac_pool.proofs.passes.home_count.Given as goal

abbrev pub invariant-loop-slot : goal.invariant-loop-slot
invariant-loop-slot g l = (l.count ≤ l.slot-index) × (l.count ≡ length (at_home (take l.slot-index l.slots.items)))
