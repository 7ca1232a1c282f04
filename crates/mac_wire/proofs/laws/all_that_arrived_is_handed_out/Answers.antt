use Rattle.mac_wire.proofs.Opening.{has_arrived_in}
use Rattle.mac_wire.proofs.laws.all_that_arrived_is_handed_out.Goals as goal

pub returns : goal.returns
returns c = λ reader stream handed read. has_arrived_in reader.version reader.stage stream handed read
