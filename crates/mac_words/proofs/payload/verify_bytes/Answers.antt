use Rattle.mac_words.specs.Payload.{texts_of}
use Rattle.mac_words.proofs.PayloadLemmas.{few_facts, verify_made}
use Rattle.mac_words.proofs.payload.verify_bytes.Goals as goal

pub put_name-requires : goal.put_name-requires
put_name-requires c = c.requires.0

pub put_long_field-requires : goal.put_long_field-requires
put_long_field-requires c = c.requires.1

pub put_counted_fields-requires : goal.put_counted_fields-requires
put_counted_fields-requires c = record { count = few_facts (texts_of c.args.facts.now) c.requires.3; each = c.requires.4 }

pub returns : goal.returns
returns c =
    verify_made c.args.key.now c.args.token.now c.to_be_bytes.result c.args.moment (texts_of c.args.facts.now) _ _ _ _ _ _
    c.new-payload.ensures.items c.to_be_bytes.ensures c.in_ok-extend_from_slice.ensures.items c.in_ok-put_name.ensures c.in_ok-put_long_field.ensures c.in_ok-extend_from_slice-2.ensures.items c.in_ok-put_counted_fields.ensures
