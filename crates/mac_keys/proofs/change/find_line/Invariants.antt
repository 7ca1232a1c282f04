use Rattle.std.proofs.Common.{◌-◌, length}
use Rattle.mac_keys.proofs.Whole.{IsSearched}
use Rattle.mac_keys.proofs.change.find_line.Given as goal

abbrev pub decreases-loop-length : goal.decreases-loop-length
decreases-loop-length l = length l.text - l.start

abbrev pub invariant-loop-length : goal.invariant-loop-length
invariant-loop-length l = IsSearched l.name l.text l.above l.start l.left
