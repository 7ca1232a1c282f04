use Rattle.std.proofs.Common.{◌≡◌, [], length}
use Rattle.mac_decide.specs.Lack.{nearest}
use Rattle.mac_decide.proofs.lacks.nearest_fact.Given as goal

-- what the best so far gives with the others is what nothing gives with all
abbrev pub invariant-loop-fact : goal.invariant-loop-fact
invariant-loop-fact l = nearest l.caveat l.best l.others ≡ nearest l.caveat [] l.facts

abbrev pub decreases-loop-fact : goal.decreases-loop-fact
decreases-loop-fact l = length l.others
