use Rattle.std.proofs.Common.{◌≡◌, drop, length, take}
use Rattle.std.specs.List.{All}
use Rattle.mac_decide.specs.Folding.{texts_of}
use Rattle.mac_decide.specs.Verdict.{AreAmong, Satisfied}
use Rattle.mac_decide.proofs.verdict.unsatisfied_in.Given as goal

-- the caveats up to the index are satisfied, and the others are left
abbrev pub invariant-loop-caveat : goal.invariant-loop-caveat
invariant-loop-caveat l = record {
  before : All (λ caveat. Satisfied caveat l.context) (take l.index (texts_of l.fn.caveats));
  left : drop l.index (texts_of l.fn.caveats) ≡ texts_of l.caveats;
  ahead : AreAmong l.ahead l.context.facts;
}

abbrev pub decreases-loop-caveat : goal.decreases-loop-caveat
decreases-loop-caveat l = length (texts_of l.caveats)
