use Rattle.mac_words.specs.Payload.{texts_of}
use Rattle.mac_words.proofs.PayloadLemmas.{mint_made}
use Rattle.mac_words.proofs.payload.mint_bytes.Goals as goal

pub put_name-requires : goal.put_name-requires
put_name-requires c = c.requires.0

pub put_text-requires : goal.put_text-requires
put_text-requires c = c.requires.1

pub put_text-requires-2 : goal.put_text-requires-2
put_text-requires-2 c = c.requires.3

pub put_counted_fields-requires : goal.put_counted_fields-requires
put_counted_fields-requires c = record { count = c.requires.4; each = c.requires.5 }

pub returns : goal.returns
returns c =
    mint_made c.args.form c.code.result c.args.key.now c.args.location.now c.args.identifier.now (texts_of c.args.caveats.now) _ _ _ _ _ _
    c.new-payload.ensures.items c.code.ensures c.in_ok-extend_from_slice.ensures.items c.in_ok-put_name.ensures c.in_ok-put_text.ensures c.in_ok-put_text-2.ensures c.in_ok-put_counted_fields.ensures
