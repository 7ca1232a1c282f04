use Rattle.mac_wire.proofs.Opening.{arrivals_of-other}
use Rattle.mac_wire.proofs.laws.others_are_version_one.Goals as goal

pub returns : goal.returns
returns c = arrivals_of-other
