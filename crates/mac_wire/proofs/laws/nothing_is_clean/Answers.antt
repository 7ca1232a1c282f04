use Rattle.mac_wire.proofs.Frames.{frames_of-nothing}
use Rattle.mac_wire.proofs.Opening.{arrivals_of-nothing}
use Rattle.mac_wire.proofs.laws.nothing_is_clean.Goals as goal

pub returns-clause-frames : goal.returns-clause-frames
returns-clause-frames c = frames_of-nothing

pub returns-clause-stream : goal.returns-clause-stream
returns-clause-stream c = arrivals_of-nothing
