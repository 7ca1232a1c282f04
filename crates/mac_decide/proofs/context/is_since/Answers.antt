use Rattle.std.proofs.Common.{rules, refl, FitsSigned, w64, ◌∙◌}
use Rattle.std.proofs.lemmas.Int.{to_z-of_z}
use Rattle.mac_decide.proofs.SatisfiedLemmas.{IsSince-known, reached-tested, wide_bound, wide_moment}
use Rattle.mac_decide.proofs.context.is_since.Goals as goal

pub returns-in-None : goal.returns-in-None
returns-in-None c = ((λ e. absurd (cc)), (λ (v, h, reached). absurd (cc ((c.in-None.ensures v).1 h))))

pub returns-in-Some : goal.returns-in-Some
returns-in-Some c =
    let known = (c.in-Some.ensures c.in-Some.bound).0 refl in
    let fits : FitsSigned w64 c.in-Some.bound = search rules in
    let reached = reached-tested c.in-Some.bound c.args.moment in
    rw (c.from.ensures ∙ to_z-of_z w64 c.in-Some.bound fits, c.from-in-Some.ensures, wide_bound c.in-Some.bound fits, wide_moment c.args.moment c.ranges.moment.fits)
    ((λ e. (c.in-Some.bound, known, reached.0 e)), (λ h. reached.1 (IsSince-known _ _ _ known h)))
