-- The test for text decides on the member.
use Rattle.std.proofs.lemmas.Str.{is_utf8-from_IsUtf8}
use Rattle.mac_calls.proofs.InspectLemmas.{is_utf8-no_text}
use Rattle.mac_calls.proofs.inspect.put_bytes.Goals as goal

pub returns-in_ok-value-in-Ok : goal.returns-in_ok-value-in-Ok
returns-in_ok-value-in-Ok c =
    rw (is_utf8-from_IsUtf8 c.args.bytes.now c.in-Ok.ensures.cases.1)
    (rw (c.in_ok-value-in-Ok.ensures, c.in-Ok.ensures.cases.0) at c.put.ensures.ok)

pub returns-in_ok-letters-in-Err : goal.returns-in_ok-letters-in-Err
returns-in_ok-letters-in-Err c =
    rw (is_utf8-no_text c.args.bytes.now c.in-Err.ensures.cases.0)
    (rw (c.from.ensures, c.in_ok-letters-in-Err.ensures) at c.put-in-Err.ensures.ok)
