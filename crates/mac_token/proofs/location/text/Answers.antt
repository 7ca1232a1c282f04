use Rattle.std.proofs.Common.{sym}
use Rattle.mac_token.proofs.Texts.{text_at-IsUtf8, text_at-no_text}
use Rattle.mac_token.proofs.location.text.Goals as goal

pub returns-in-Ok : goal.returns-in-Ok
returns-in-Ok c =
    let text = text_at-IsUtf8 c.args.bytes.now c.in-Ok.ensures.cases.1 in
    let read = c.in-Ok.ensures.cases.0 in
    cc

pub returns-in-Err : goal.returns-in-Err
returns-in-Err c = sym (text_at-no_text c.args.bytes.now c.in-Err.ensures.cases.0)
