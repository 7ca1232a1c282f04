use Rattle.std.proofs.Common.{ℕ, List, MatchOption, ap, arith, length, subst}
use Rattle.std.specs.List.{All}
use Rattle.mac_decide.specs.Verdict.{IsFirstUnsatisfied, Satisfied}
use Rattle.mac_decide.proofs.verdict_view.unsatisfied_caveat.Goals as goal

pub unsatisfied_in-requires : goal.unsatisfied_in-requires
unsatisfied_in-requires c = omega (arith, ap length c.walk.ensures, c.caveats-count.ensures.within.count)

pub returns : goal.returns
returns c =
    let x = c.args.context.now in
    subst (λ (all : List (List ℕ)). MatchOption c.unsatisfied_in.result (All (λ caveat. Satisfied caveat x) all) (IsFirstUnsatisfied all x)) c.walk.ensures c.unsatisfied_in.ensures
