use Rattle.mac_wire.proofs.ReplyText.{one_reply_and_its_place}
use Rattle.mac_wire.proofs.laws.one_reply_and_its_place.Goals as goal

pub returns : goal.returns
returns c = one_reply_and_its_place
