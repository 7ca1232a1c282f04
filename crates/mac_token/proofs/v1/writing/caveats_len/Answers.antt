use Rattle.std.proofs.Common.{length, ap, arith}
use Rattle.mac_token.proofs.Packets.{length-caveat_packets-more, short_at}
use Rattle.mac_token.proofs.v1.writing.caveats_len.Goals as goal

pub loop-caveat-preserved : goal.loop-caveat-preserved
loop-caveat-preserved c =
    let buffer = c.caveat-item.result in
    let more = length-caveat_packets-more c.args.caveats.now c.loop-caveat.caveat-index buffer c.loop-caveat-test.true c.caveat-item.is in
    let short = short_at c.args.caveats.now c.loop-caveat.caveat-index buffer c.loop-caveat-test.true c.caveat-item.is c.requires.each in
    let same = ap length c.deref.ensures.value in
    (omega (arith, more, same, c.packet_len-len.ensures, c.loop-caveat.invariant.0), omega (arith, short, same, c.packet_len-len.ensures, c.loop-caveat.invariant.1))
