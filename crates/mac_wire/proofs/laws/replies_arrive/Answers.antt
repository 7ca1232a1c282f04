use Rattle.std.proofs.lemmas.List.Elements.{recursion_from_All}
use Rattle.mac_wire.specs.Reply.{IsReply, reply_payloads}
use Rattle.mac_wire.proofs.ReplyText.{frames_of-framed, payloads_fit}
use Rattle.mac_wire.proofs.laws.replies_arrive.Goals as goal

pub returns : goal.returns
returns c = λ version replies are. frames_of-framed (reply_payloads version replies) (payloads_fit version 0 replies (recursion_from_All IsReply replies are))
