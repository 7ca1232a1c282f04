use Rattle.mac_wire.proofs.Asking.{key_name_of-asks}
use Rattle.mac_wire.proofs.laws.key_name_is_the_key.Goals as goal

pub returns : goal.returns
returns c = key_name_of-asks
