use Rattle.std.proofs.Common.{ap, ◌∙◌, ℕ, List}
use Rattle.mac_keys.specs.Keys.{listed}
use Rattle.mac_decide.specs.Answer.{unless_revoked, verdict_reply}
use Rattle.mac_decide.specs.Revocation.{tells_revoked}
use Rattle.mac_decide.proofs.SeenLemmas.{seen-verdict}
use Rattle.mac_decide.proofs.seen.reply_to.Goals as goal

pub returns : goal.returns
returns c =
    let token = c.args.seen.now.token in
    let telling = c.args.telling in
    let due = c.found_verdict-verdict.ensures ∙ seen-verdict (listed c.args.keys.now) token c.args.context.now c.unsatisfied_of.result c.requires c.unsatisfied_of.ensures in
    let told = c.in_ok-reply.ensures token (search) (search) in
    c.keep_hashed.ensures
    ∙ ap (λ (i : List ℕ). unless_revoked (tells_revoked telling.revoked telling.name.now i) c.in_ok-reply.reply) c.identifier-identifier.ensures
    ∙ ap (unless_revoked (tells_revoked telling.revoked telling.name.now token.identifier)) (told ∙ ap (verdict_reply telling.grant token) due)
