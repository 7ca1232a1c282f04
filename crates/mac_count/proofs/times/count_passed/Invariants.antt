use Rattle.std.proofs.Common.{◌≡◌, ◌≤◌, take}
use Rattle.mac_count.specs.Times.{count_passed}
use Rattle.mac_count.proofs.times.count_passed.Given as goal

abbrev pub invariant-loop-bound : goal.invariant-loop-bound
invariant-loop-bound l = (l.passed ≡ count_passed (take l.bound-index l.bounds) l.micros) × (l.passed ≤ l.bound-index)
