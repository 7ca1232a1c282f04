-- The test for text decides on the member.
use Rattle.std.proofs.Common.{◌∙◌}
use Rattle.std.proofs.lemmas.Str.{is_utf8-from_IsUtf8}
use Rattle.mac_token.proofs.JsonWritten.{is_utf8-no_text}
use Rattle.mac_token.proofs.v2_json.writing.put_identifier.Goals as goal

pub returns-in-Ok : goal.returns-in-Ok
returns-in-Ok c = rw (is_utf8-from_IsUtf8 c.args.bytes.now c.in-Ok.ensures.cases.1) (rw c.in-Ok.ensures.cases.0 at c.put_text.ensures)

pub returns-in_ok-letters-in-Err : goal.returns-in_ok-letters-in-Err
returns-in_ok-letters-in-Err c =
    let text = c.as_str.ensures.value ∙ c.in_ok-letters-in-Err.ensures in
    rw (is_utf8-no_text c.args.bytes.now c.in-Err.ensures.cases.0) (rw text at c.put_text-in-Err.ensures)
