use Rattle.std.proofs.Common.{arith}
use Rattle.mac_wire.proofs.ReplyText.{short_reply}
use Rattle.mac_wire.proofs.reply.append_reply.Goals as goal

pub overflow_add-length : goal.overflow_add-length
overflow_add-length c = omega (arith, c.place_length.ensures.small, c.payload_length.ensures, short_reply c.args.reply.now c.requires)
