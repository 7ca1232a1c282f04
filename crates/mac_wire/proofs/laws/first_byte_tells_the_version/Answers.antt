use Rattle.mac_wire.proofs.Opening.{same_version}
use Rattle.mac_wire.proofs.laws.first_byte_tells_the_version.Goals as goal

pub returns : goal.returns
returns c = same_version
