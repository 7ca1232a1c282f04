use Rattle.mac_wire.proofs.Asking.{request_of-asks}
use Rattle.mac_wire.proofs.laws.what_is_asked_is_read.Goals as goal

pub returns : goal.returns
returns c = request_of-asks
