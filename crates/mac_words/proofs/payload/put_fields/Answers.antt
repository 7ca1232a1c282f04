use Rattle.std.proofs.Common.{length, ap, arith}
use Rattle.mac_words.proofs.PayloadLemmas.{short_at}
use Rattle.mac_words.proofs.payload.put_fields.Goals as goal

pub put_long_field-requires : goal.put_long_field-requires
put_long_field-requires c =
    let short = short_at c.args.texts.now c.loop-text.text-index c.text-item.result c.loop-text-test.true c.text-item.is c.requires in
    omega (arith, short, ap length c.as_bytes.ensures.value)
