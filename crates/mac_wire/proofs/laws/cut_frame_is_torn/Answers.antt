use Rattle.std.proofs.Common.{take, arith}
use Rattle.std.proofs.lemmas.List.{length-take}
use Rattle.mac_wire.specs.Frame.{frame}
use Rattle.mac_wire.proofs.Frames.{IsUnfinished-part, frames_of-unfinished}
use Rattle.mac_wire.proofs.laws.cut_frame_is_torn.Goals as goal

pub returns : goal.returns
returns c = λ payload n fits some part. frames_of-unfinished (take n (frame payload)) (omega (arith, length-take n (frame payload))) (IsUnfinished-part payload n fits part)
