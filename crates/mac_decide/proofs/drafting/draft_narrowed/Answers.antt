use Rattle.std.proofs.Common.{[], ◌++◌}
use Rattle.std.proofs.lemmas.Result.{err_from_is_err_and}
use Rattle.mac_token.specs.Answers.{IsFault}
use Rattle.mac_token.specs.Limits.{token_or_limit}
use Rattle.mac_token.specs.Push.{IsPushFault}
use Rattle.mac_token.specs.RawToken.{token_parts}
use Rattle.mac_decide.proofs.DraftingLemmas.{limit-more, weaker-fault}
use Rattle.mac_decide.proofs.drafting.draft_narrowed.Goals as goal

pub returns-in_err-begun : goal.returns-in_err-begun
returns-in_err-begun c =
    let t = c.args.token.now in
    let fault = c.in_err-begun.field-0.0 in
    let p = err_from_is_err_and c.from_residual.result c.from_residual.ensures.1 in
    let bare = token_parts t.location t.identifier [] [] in
    let refused : IsPushFault bare fault = rw (← c.location.ensures, ← c.identifier.ensures) c.in_err-begun.ensures in
    rw (p.1, p.2) (limit-more bare (t.caveats ++ c.args.caveats.now) [] fault (weaker-fault bare fault refused))

pub returns-in_err-copied : goal.returns-in_err-copied
returns-in_err-copied c =
    let t = c.args.token.now in
    let fault = c.in_err-copied.field-0.0 in
    let begun = token_parts c.location.result.now c.identifier.result.now [] [] in
    let p = err_from_is_err_and c.from_residual-in_err-copied.result c.from_residual-in_err-copied.ensures.1 in
    let own : IsFault fault (token_or_limit (token_parts t.location t.identifier t.caveats [])) =
    rw (← c.location.ensures, ← c.identifier.ensures, ← c.walk.ensures) (c.in_err-copied.ensures c.args.form begun c.in_ok-begun.ensures) in
    rw (p.1, p.2) (limit-more (token_parts t.location t.identifier t.caveats []) c.args.caveats.now [] fault own)

pub returns : goal.returns
returns c =
    let begun = token_parts c.location.result.now c.identifier.result.now [] [] in
    let copied = token_parts c.location.result.now c.identifier.result.now c.walk.result [] in
    rw (← c.location.ensures, ← c.identifier.ensures, ← c.walk.ensures, ← c.walk-2.ensures)
    (c.with_texts-2.ensures c.args.form copied (c.in_ok-copied.ensures c.args.form begun c.in_ok-begun.ensures))
