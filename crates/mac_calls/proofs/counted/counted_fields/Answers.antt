use Rattle.std.proofs.Common.{ap, length, arith}
use Rattle.mac_calls.proofs.ListLemmas.{short_at}
use Rattle.mac_calls.proofs.counted.counted_fields.Goals as goal

pub put_field-requires : goal.put_field-requires
put_field-requires c =
    let short = short_at c.args.facts.now c.loop-fact.fact-index c.fact-item.result c.loop-fact-test.true c.fact-item.is c.requires.each in
    omega (arith, short, ap length c.deref.ensures.value)
