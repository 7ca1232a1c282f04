use Rattle.std.proofs.Common.{ℕ, List, length, ap, arith}
use Rattle.mac_token.specs.V2.{field}
use Rattle.mac_token.specs.declared.v2.FieldType.TheVariants.{Identifier}
use Rattle.mac_token.proofs.Packets.{short_at}
use Rattle.mac_token.proofs.V2Writing.{length-caveat_sections_more}
use Rattle.mac_token.proofs.v2.writing.caveats_len.Goals as goal

pub field_len-requires : goal.field_len-requires
field_len-requires c =
    let short = short_at c.args.caveats.now c.loop-caveat.caveat-index c.caveat-item.result c.loop-caveat-test.true c.caveat-item.is c.requires.each in
    omega (arith, short, ap length c.deref.ensures.value)

pub loop-caveat-preserved : goal.loop-caveat-preserved
loop-caveat-preserved c =
    let buffer = c.caveat-item.result in
    let more = length-caveat_sections_more c.args.caveats.now c.loop-caveat.caveat-index buffer c.loop-caveat-test.true c.caveat-item.is in
    let short = short_at c.args.caveats.now c.loop-caveat.caveat-index buffer c.loop-caveat-test.true c.caveat-item.is c.requires.each in
    let same = ap length c.deref.ensures.value in
    let field_same = ap (λ (bytes : List ℕ). length (field Identifier bytes)) c.deref.ensures.value in
    record {
      so_far = omega (arith, more, field_same, c.field_len.ensures.value, c.loop-caveat.invariant.so_far);
      bound = omega (arith, short, same, c.field_len.ensures.bound, c.loop-caveat.invariant.bound);
    }
