use Rattle.mac_wire.specs.Frame.{frame}
use Rattle.mac_wire.proofs.Frames.{IsWhole-frame, frames_of-whole}
use Rattle.mac_wire.proofs.laws.frame_arrives.Goals as goal

pub returns : goal.returns
returns c = λ payload rest fits. frames_of-whole (frame payload) payload rest (IsWhole-frame payload fits)
