use Rattle.mac_wire.proofs.Opening.{arrivals_of-frame}
use Rattle.mac_wire.proofs.laws.no_frame_is_a_hello.Goals as goal

pub returns : goal.returns
returns c = arrivals_of-frame
