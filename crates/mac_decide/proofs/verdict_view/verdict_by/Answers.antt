use Rattle.std.proofs.Common.{sym, ◌∙◌}
use Rattle.std.proofs.lemmas.Bool.{false≢true}
use Rattle.mac_decide.proofs.VerdictLemmas.{given-verdict, other-verdict}
use Rattle.mac_decide.proofs.verdict_view.verdict_by.Goals as goal

pub returns-then-is_given : goal.returns-then-is_given
returns-then-is_given c =
    c.found_verdict.ensures
    ∙ given-verdict c.args.signature c.args.second c.args.token.now c.args.context.now _ (c.is_given.ensures.0 c.if-is_given.true) c.unsatisfied_caveat.ensures

pub returns-else-is_given : goal.returns-else-is_given
returns-else-is_given c =
    other-verdict c.args.signature c.args.second c.args.token.now c.args.context.now (λ given. false≢true (sym c.if-is_given.false ∙ c.is_given.ensures.1 given))
