use Rattle.std.proofs.Common.{◌≡◌, sym, ap, ◌∙◌}
use Rattle.mac_keys.specs.Keys.{listed}
use Rattle.mac_token.specs.Read.{read_of}
use Rattle.mac_decide.specs.Answer.{refused, refusal_of, told}
use Rattle.mac_decide.specs.Reading.{verdict_of}
use Rattle.mac_decide.specs.Telling.{verdict_told}
use Rattle.mac_decide.proofs.VerifiedLemmas.{refused-is}
use Rattle.mac_decide.proofs.verifying.prepare_verify.Goals as goal

pub returns-in-Ok : goal.returns-in-Ok
returns-in-Ok c = rw c.in-Ok.ensures.answer c.ask.ensures

pub returns-in-Err-Refused : goal.returns-in-Err-Refused
returns-in-Err-Refused c =
    let reason = c.in-Err-Refused.reason in
    let named : c.refusal_of.result ≡ refusal_of reason = rw c.in-Err-Refused.field-0-is at c.refusal_of.ensures in
    let read = refused-is (read_of c.args.token.now) c.in-Err-Refused.field-0 reason c.in-Err-Refused.field-0-is c.in-Err-Refused.ensures.answer in
    c.told.ensures ∙ ap refused named ∙ ap (λ read. told read (λ t. verdict_told c.args.telling t (verdict_of (listed c.args.keys.now) t c.args.context))) (sym read)
