-- The tokens one after the other are those of the object.
use Rattle.std.proofs.Common.{◌∙◌}
use Rattle.mac_token.specs.RawToken.{token_parts}
use Rattle.mac_token.proofs.JsonWritten.{object-appended}
use Rattle.mac_token.proofs.v2_json.writing.put_token.Goals as goal

pub returns : goal.returns
returns c =
    let t = token_parts c.args.location.now c.args.identifier.now c.args.caveats c.args.sig.now in
    let text = c.as_str.ensures.value ∙ c.in_ok-signature.ensures in
    let before = c.in_ok-end_object.ensures.room.0 ∙ c.in_ok-u64.ensures.room.0 ∙ c.in_ok-key-2.ensures.room.0 ∙ c.in_ok-put_text.ensures.1
    ∙ c.in_ok-put_location.ensures.1 ∙ c.in_ok-put_identifier.ensures.1 ∙ c.in_ok-end_array.ensures.room.0 ∙ c.in_ok-put_caveats.ensures.1
    ∙ c.in_ok-begin_array.ensures.room.0 ∙ c.in_ok-key.ensures.room.0 ∙ c.in_ok-begin_object.ensures.room.0 in (
      object-appended t c.args.out.now.tokens _ _ _ _ _ _ _ _ _ _ _ c.in_ok-begin_object.ensures.ok c.in_ok-key.ensures.ok c.in_ok-begin_array.ensures.ok c.in_ok-put_caveats.ensures.0
          c.in_ok-end_array.ensures.ok c.in_ok-put_identifier.ensures.0 c.in_ok-put_location.ensures.0 (rw text at c.in_ok-put_text.ensures.0) c.in_ok-key-2.ensures.ok c.in_ok-u64.ensures.ok c.in_ok-end_object.ensures.ok,
      before,
    )
