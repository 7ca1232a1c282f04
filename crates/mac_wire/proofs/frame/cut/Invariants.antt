use Rattle.std.proofs.Common.{◌++◌, ◌≤◌, length}
use Rattle.mac_wire.specs.Frame.{IsUnfinished}
use Rattle.mac_wire.proofs.Cutting.{IsCutTo}
use Rattle.mac_wire.proofs.frame.cut.Given as goal

abbrev pub invariant-loop-rest : goal.invariant-loop-rest
invariant-loop-rest l = (length l.rest ≤ length l.piece)
    × (IsUnfinished l.fn.held → IsCutTo (l.fn.held ++ l.piece) l.arrivals.items l.partial l.rest)

abbrev pub decreases-loop-rest : goal.decreases-loop-rest
decreases-loop-rest l = length l.rest
