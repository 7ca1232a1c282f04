use Rattle.std.proofs.Common.{rules, refl, FitsSigned, w64, ◌∙◌}
use Rattle.std.proofs.lemmas.Int.{to_z-of_z}
use Rattle.mac_decide.proofs.SatisfiedLemmas.{IsBefore-known, below-tested, wide_bound, wide_moment}
use Rattle.mac_decide.proofs.context.is_before.Goals as goal

pub returns-in-None : goal.returns-in-None
returns-in-None c = ((λ e. absurd (cc)), (λ (v, h, below). absurd (cc ((c.in-None.ensures v).1 h))))

pub returns-in-Some : goal.returns-in-Some
returns-in-Some c =
    let known = (c.in-Some.ensures c.in-Some.limit).0 refl in
    let fits : FitsSigned w64 c.in-Some.limit = search rules in
    let below = below-tested c.args.moment c.in-Some.limit in
    rw (c.from.ensures, c.from-in-Some.ensures ∙ to_z-of_z w64 c.in-Some.limit fits, wide_moment c.args.moment c.ranges.moment.fits, wide_bound c.in-Some.limit fits)
    ((λ e. (c.in-Some.limit, known, below.0 e)), (λ h. below.1 (IsBefore-known _ _ _ known h)))
