use Rattle.std.proofs.lemmas.Result.{err_from_is_err_and}
use Rattle.mac_token.specs.Push.{with_caveats}
use Rattle.mac_decide.specs.Folding.{texts_of}
use Rattle.mac_decide.proofs.DraftingLemmas.{pushed-reaches, refused-reaches}
use Rattle.mac_decide.proofs.drafting.with_texts.Goals as goal

pub returns-in_err-draft : goal.returns-in_err-draft
returns-in_err-draft c = λ form t is.
    let p = err_from_is_err_and c.from_residual.result c.from_residual.ensures.1 in
    rw (p.1, p.2)
    (refused-reaches form c.loop-text.draft c.in_err-draft.field-0.0 c.in-Some.text.now (texts_of c.next.new.self) (texts_of c.loop-text.texts)
    (with_caveats t (texts_of c.args.texts) t.sig) c.in-Some.ensures c.in_err-draft.ensures (c.loop-text.invariant form t is))

pub loop-text-preserved : goal.loop-text-preserved
loop-text-preserved c = λ form t is.
    pushed-reaches form c.loop-text.draft c.in_ok-draft.draft c.in-Some.text.now (texts_of c.next.new.self) (texts_of c.loop-text.texts)
    (with_caveats t (texts_of c.args.texts) t.sig) c.in-Some.ensures c.in_ok-draft.ensures (c.loop-text.invariant form t is)
