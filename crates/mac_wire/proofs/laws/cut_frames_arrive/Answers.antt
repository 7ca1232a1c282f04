use Rattle.mac_wire.proofs.Sessions.{front_arrives}
use Rattle.mac_wire.proofs.laws.cut_frames_arrive.Goals as goal

pub returns : goal.returns
returns c = front_arrives
