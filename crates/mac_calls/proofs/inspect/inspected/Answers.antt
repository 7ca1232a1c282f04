use Rattle.serde_json.specs.View.{view}
use Rattle.mac_calls.proofs.InspectLemmas.{inspect_told}
use Rattle.mac_calls.proofs.inspect.inspected.Goals as goal

pub returns : goal.returns
returns c =
    inspect_told (view c.args.object.now) c.in_ok-text.text.now c.as_bytes.result.now c.in_ok-to_vec.field-0.items
    c.in_ok-received.received.form c.in_ok-received.received.token (view c.in_ok-told.told)
    c.in_ok-text.ensures c.as_bytes.ensures.value c.in_ok-received.ensures.token c.in_ok-received.ensures.form
    c.in_ok-told.ensures c.in_ok-to_vec.ensures.text
