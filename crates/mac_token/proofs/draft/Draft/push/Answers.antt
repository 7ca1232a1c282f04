use Rattle.std.proofs.Common.{◌≡◌, [], ◌∷◌, ◌++◌, ap, arith}
use Rattle.mac_token.specs.Draft.{DraftParts}
use Rattle.mac_token.specs.Limits.{PartsFit}
use Rattle.mac_token.specs.Push.{with_caveats}
use Rattle.mac_token.proofs.Within.{token_or_limit-Err, fit_few, fit_short}
use Rattle.mac_token.proofs.draft.Draft.push.Goals.{then-self-ge-CAVEATS_MAX-via-then-self-ge-CAVEATS_MAX, then-self-ge-CAVEATS_MAX-via-else-self-ge-CAVEATS_MAX+then-caveat-gt-CAVEAT_MAX}
use Rattle.mac_token.proofs.draft.Draft.push.Goals as goal

pub returns-then-self-ge-CAVEATS_MAX : goal.returns-then-self-ge-CAVEATS_MAX
returns-then-self-ge-CAVEATS_MAX c = λ form t is.
    let caveat = c.args.caveat.now in
    let seen : c.self.inside.caveats ≡ c.args.self.caveats = ap (λ (d : DraftParts). d.caveats) c.self.view_is in
    let fails : ¬ (PartsFit t.location t.identifier (t.caveats ++ caveat ∷ [])) =
    elim c.then-self-ge-CAVEATS_MAX.branch [
      | then-self-ge-CAVEATS_MAX-via-then-self-ge-CAVEATS_MAX w ↦ λ fit.
          let few = fit_few t.location t.identifier t.caveats (caveat ∷ []) fit in
          omega (arith, few, w.if-self-ge-CAVEATS_MAX.true, seen, is.count)
      | then-self-ge-CAVEATS_MAX-via-else-self-ge-CAVEATS_MAX+then-caveat-gt-CAVEAT_MAX w ↦ λ fit.
          let short = fit_short t.location t.identifier t.caveats (caveat ∷ []) fit 0 [] (omega arith) in
          omega (arith, short, w.if-caveat-gt-CAVEAT_MAX.true)
    ] in
    token_or_limit-Err (with_caveats t (caveat ∷ []) t.sig) fails
