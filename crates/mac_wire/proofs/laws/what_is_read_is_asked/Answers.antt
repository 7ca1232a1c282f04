use Rattle.mac_wire.proofs.Asking.{asks-request_of}
use Rattle.mac_wire.proofs.laws.what_is_read_is_asked.Goals as goal

pub returns : goal.returns
returns c = asks-request_of
