use Rattle.mac_wire.proofs.Opening.{has_ended_in}
use Rattle.mac_wire.proofs.laws.oversize_ends.Goals as goal

pub returns : goal.returns
returns c = λ reader stream handed read oversize. has_ended_in reader.version reader.stage stream handed read oversize
