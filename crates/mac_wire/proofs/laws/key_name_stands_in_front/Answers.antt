use Rattle.mac_wire.proofs.Names.{named, names}
use Rattle.mac_wire.proofs.laws.key_name_stands_in_front.Goals as goal

pub returns : goal.returns
returns c = λ payload name. (named payload name, names payload name)
