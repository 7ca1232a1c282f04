use Rattle.std.proofs.Common.{[]}
use Rattle.std.proofs.lemmas.Result.{err_from_is_err_and}
use Rattle.mac_token.specs.RawToken.{token_parts}
use Rattle.mac_decide.proofs.DraftingLemmas.{limit-more, weaker-fault}
use Rattle.mac_decide.proofs.drafting.draft_of_parts.Goals as goal

pub returns-in_err-draft : goal.returns-in_err-draft
returns-in_err-draft c =
    let p = err_from_is_err_and c.from_residual.result c.from_residual.ensures.1 in
    let bare = token_parts c.args.location.now c.args.identifier.now [] [] in
    let fault = c.in_err-draft.field-0.0 in
    rw (p.1, p.2) (limit-more bare c.args.caveats.now [] fault (weaker-fault bare fault c.in_err-draft.ensures))

pub returns : goal.returns
returns c =
    rw c.walk.ensures at (c.with_texts.ensures c.args.form (token_parts c.args.location.now c.args.identifier.now [] []) c.in_ok-draft.ensures)
