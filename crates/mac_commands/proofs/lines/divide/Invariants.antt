use Rattle.std.proofs.Common.{◌≤◌, ◌-◌, length}
use Rattle.mac_commands.proofs.KeyText.{Divides}
use Rattle.mac_commands.proofs.lines.divide.Given as goal

abbrev pub invariant-loop-end : goal.invariant-loop-end
invariant-loop-end l = (l.start ≤ length l.input) × Divides l.input l.start

abbrev pub decreases-loop-end : goal.decreases-loop-end
decreases-loop-end l = length l.input - l.start
