use Rattle.mac_wire.proofs.FirstBytes.{request_kind_of-asks}
use Rattle.mac_wire.proofs.laws.request_tells_its_kind.Goals as goal

pub returns : goal.returns
returns c = request_kind_of-asks
