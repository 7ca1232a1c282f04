use Rattle.std.proofs.Common.{◌≡◌, sym, ap, ◌∙◌}
use Rattle.mac_token.specs.Read.{read_of}
use Rattle.mac_decide.specs.Answer.{refused, refusal_of, told, token_reply}
use Rattle.mac_decide.specs.Minted.{add}
use Rattle.mac_decide.proofs.VerifiedLemmas.{refused-is}
use Rattle.mac_decide.proofs.preparing.prepare_attenuate.Goals as goal

pub returns-in-Ok : goal.returns-in-Ok
returns-in-Ok c = rw c.in-Ok.ensures.answer c.narrowed_view.ensures

pub returns-in-Err-Refused : goal.returns-in-Err-Refused
returns-in-Err-Refused c =
    let reason = c.in-Err-Refused.reason in
    let named : c.refusal_of.result ≡ refusal_of reason = rw c.in-Err-Refused.field-0-is at c.refusal_of.ensures in
    let read = refused-is (read_of c.args.token.now) c.in-Err-Refused.field-0 reason c.in-Err-Refused.field-0-is c.in-Err-Refused.ensures.answer in
    c.told.ensures ∙ ap refused named ∙ ap (λ read. told read (λ t. token_reply c.args.form (add t c.args.caveats))) (sym read)
