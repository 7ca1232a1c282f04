use Rattle.std.specs.Int.{w32, to_be_bytes}
use Rattle.mac_wire.proofs.Frames.{IsTooLong-told, frames_of-too_long}
use Rattle.mac_wire.proofs.laws.long_frame_is_oversize.Goals as goal

pub returns : goal.returns
returns c = λ n rest passed fits. frames_of-too_long (to_be_bytes w32 n) rest (IsTooLong-told n passed fits)
