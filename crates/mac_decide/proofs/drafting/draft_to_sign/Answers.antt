use Rattle.std.proofs.Common.{◌≡◌, Err, ap, subst, ◌∙◌}
use Rattle.mac_token.specs.Answers.{IsFault}
use Rattle.mac_token.specs.Limits.{token_or_limit}
use Rattle.mac_token.specs.declared.fault.TokenFault.{TokenFault}
use Rattle.mac_token.specs.declared.fault.TokenFault.TheVariants.{Refused}
use Rattle.mac_decide.specs.Answer.{refused}
use Rattle.mac_decide.specs.Folding.{end_of}
use Rattle.mac_decide.proofs.DraftingLemmas.{draft-reply}
use Rattle.mac_decide.proofs.SigningLemmas.{unsigned-reply}
use Rattle.mac_decide.proofs.drafting.draft_to_sign.Goals as goal

pub returns-in-Ok : goal.returns-in-Ok
returns-in-Ok c = λ asked t size made.
    draft-reply asked t c.in-Ok.draft (end_of c.args.folding) size (rw c.in-Ok.is at made)

pub returns-in-Err-Refused : goal.returns-in-Err-Refused
returns-in-Err-Refused c = λ asked t size made.
    let reason = c.in-Err-Refused.reason in
    let fault : IsFault c.in-Err-Refused.field-0 (token_or_limit t) = rw c.in-Err-Refused.is at made in
    let is : c.in-Err-Refused.field-0 ≡ Refused reason = rw c.in-Err-Refused.is at c.in-Err-Refused.field-0-is in
    let refusal : token_or_limit t ≡ Err reason = subst (λ (f : TokenFault). IsFault f (token_or_limit t)) is fault in
    c.refused.ensures ∙ ap refused c.refusal_of.ensures ∙ unsigned-reply asked t (end_of c.args.folding) reason refusal
