use Rattle.std.proofs.Common.{ℕ, List, MatchOption, ap, arith, length, subst}
use Rattle.std.specs.List.{All}
use Rattle.mac_decide.specs.Verdict.{IsFirstUnsatisfied, Satisfied}
use Rattle.mac_decide.proofs.verdict.unsatisfied_of.Goals as goal

pub unsatisfied_in-requires : goal.unsatisfied_in-requires
unsatisfied_in-requires c = omega (arith, ap length c.caveat_list.ensures.value, c.caveat_list.ensures.within.count)

pub returns : goal.returns
returns c =
    let x = c.args.context.now in
    subst (λ (all : List (List ℕ)). MatchOption c.unsatisfied_in.result (All (λ caveat. Satisfied caveat x) all) (IsFirstUnsatisfied all x)) c.caveat_list.ensures.value c.unsatisfied_in.ensures
