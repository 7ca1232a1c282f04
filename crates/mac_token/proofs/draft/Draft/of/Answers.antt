-- A token is within the limits, so that its draft isn't refused.
use Rattle.std.proofs.Common.{[], subst}
use Rattle.std.proofs.lemmas.Result.{err_from_is_err_and}
use Rattle.mac_token.specs.Push.{IsPushFault}
use Rattle.mac_token.specs.RawToken.{TokenParts, token_parts}
use Rattle.mac_token.proofs.DraftLemmas.{draft_more, first-not_refused, more-not_refused, with_first}
use Rattle.mac_token.proofs.draft.Draft.of.Goals as goal

pub returns-in_err-draft-clause-err : goal.returns-in_err-draft-clause-err
returns-in_err-draft-clause-err c =
    let p = err_from_is_err_and c.from_residual.result c.from_residual.ensures.1 in
    let refused = subst (λ (t : TokenParts). IsPushFault t c.in_err-draft.field-0.0) (λ i. token_parts (c.location.ensures i) (c.identifier.ensures i) [] []) c.in_err-draft.ensures in
    rw (p.1, p.2) (first-not_refused c.args.token.now c.caveat_list-caveats.result.now 0 c.in_err-draft.field-0.0 c.caveat_list-caveats.ensures.value c.caveat_list-caveats.ensures.within refused)

pub returns-in_err-draft-2-clause-err : goal.returns-in_err-draft-2-clause-err
returns-in_err-draft-2-clause-err c =
    let p = err_from_is_err_and c.from_residual-in_err-draft-2.result c.from_residual-in_err-draft-2.ensures.1 in
    let t = c.args.token.now in
    let buffers = c.caveat_list-caveats.result.now in
    let refused = c.in_err-draft-2.ensures c.args.form (with_first t buffers c.loop-caveat.caveat-index) c.loop-caveat.invariant in
    rw (p.1, p.2)
    (more-not_refused t buffers c.loop-caveat.caveat-index c.caveat-item.result c.deref.result.now c.in_err-draft-2.field-0.0 c.loop-caveat-test.true c.caveat-item.is c.deref.ensures.value
    c.caveat_list-caveats.ensures.value c.caveat_list-caveats.ensures.within refused)

pub loop-caveat-preserved : goal.loop-caveat-preserved
loop-caveat-preserved c =
    let t = c.args.token.now in
    let buffers = c.caveat_list-caveats.result.now in
    draft_more c.args.form t buffers c.loop-caveat.caveat-index c.caveat-item.result c.deref.result.now c.in_ok-draft-2.draft c.loop-caveat-test.true c.caveat-item.is c.deref.ensures.value
    (c.in_ok-draft-2.ensures c.args.form (with_first t buffers c.loop-caveat.caveat-index) c.loop-caveat.invariant)
