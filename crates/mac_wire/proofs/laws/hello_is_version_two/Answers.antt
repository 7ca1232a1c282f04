use Rattle.mac_wire.proofs.Opening.{arrivals_of-hello}
use Rattle.mac_wire.proofs.laws.hello_is_version_two.Goals as goal

pub returns : goal.returns
returns c = arrivals_of-hello
