use Rattle.std.proofs.Common.{Bool, Ok, ap}
use Rattle.mac_token.specs.Read.{or_transport}
use Rattle.mac_token.proofs.Base64Read.{base64_again, base64_nothing}
use Rattle.mac_token.proofs.reading.decode_into.Goals as goal

pub returns-then-branch-clause-answer : goal.returns-then-branch-clause-answer
returns-then-branch-clause-answer c =
    let spelled = c.in_ok-decode_into.ensures.spelled (ap (λ (found : Bool). Ok found) c.if-branch.true) in
    ap or_transport (base64_again c.args.text.now c.decode_into.new.bytes.items spelled)

pub returns-else-branch-clause-answer : goal.returns-else-branch-clause-answer
returns-else-branch-clause-answer c =
    let never = c.in_ok-decode_into.ensures.none (ap (λ (found : Bool). Ok found) c.if-branch.false) in
    ap or_transport (base64_nothing c.args.text.now never)
