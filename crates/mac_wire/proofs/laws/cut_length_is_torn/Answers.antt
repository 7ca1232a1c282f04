use Rattle.std.proofs.Common.{arith}
use Rattle.mac_wire.proofs.Frames.{frames_of-unfinished}
use Rattle.mac_wire.proofs.laws.cut_length_is_torn.Goals as goal

pub returns : goal.returns
returns c = λ stream some short. frames_of-unfinished stream some (λ long. absurd (omega arith))
