use Rattle.std.proofs.Common.{◌≡◌, ◌-◌, ◌≤◌, ◌++◌, [], vec_len}
use Rattle.std.specs.Prelude.{IsTrue}
use Rattle.mac_commands.proofs.input.read_input.Given as goal

abbrev pub invariant-loop-piece : goal.invariant-loop-piece
invariant-loop-piece g l = (vec_len l.input ≤ 16777217)
    × (IsTrue g.R.Source.tells → g.R.Source.taken l.source ≡ g.R.Source.taken l.initial.source ++ l.input.items)
    × (g.R.Source.faults l.source ≡ g.R.Source.faults l.initial.source)
    × (IsTrue (g.R.Source.ended l.source) → l.input.items ≡ [])

abbrev pub decreases-loop-piece : goal.decreases-loop-piece
decreases-loop-piece g l = 16777217 - vec_len l.input
