use Rattle.mac_wire.proofs.Replies.{one_reply}
use Rattle.mac_wire.proofs.laws.one_reply.Goals as goal

pub returns : goal.returns
returns c = one_reply
