use Rattle.mac_wire.proofs.FirstBytes.{reply_kind_of-placed}
use Rattle.mac_wire.proofs.laws.reply_tells_its_kind.Goals as goal

pub returns : goal.returns
returns c = reply_kind_of-placed
