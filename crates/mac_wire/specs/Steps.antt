-- What a piece makes of an unfinished frame, for the proofs of the reader.
use Rattle.std.specs.Prelude.{◌≡◌, ℕ, ◌<◌, List, [], ◌∷◌, ◌++◌, length, Option, Some, None, ◌==◌, if◌then◌else◌}
use Rattle.mac_wire.specs.declared.partial.Step.{Step}
use Rattle.mac_wire.specs.declared.partial.Step.TheVariants as step
use Rattle.mac_wire.specs.declared.arrival.Arrival.{Arrival}
use Rattle.mac_wire.specs.declared.frame.Stage.{Stage}
use Rattle.mac_wire.specs.declared.version.Version.{Version}
use Rattle.mac_wire.specs.declared.version.TheConstants.{HELLO}
use Rattle.mac_wire.specs.Frame.{IsUnfinished}
use Rattle.mac_wire.specs.Stream.{version_told}
use Rattle.mac_wire.specs.FrameReader.{HasReadTo}
use Rattle.mac_wire.specs.Partial.{IsWhole, IsTooLong}

-- the version once a piece has come, which may bring the stream's first byte
abbrev pub told_after : Option Version → List ℕ → Option Version
told_after (Some v) piece = Some v
told_after None piece = version_told piece

-- what of a piece is frames: all but a hello
abbrev pub frames_after : Option Version → List ℕ → List ℕ
frames_after (Some v) piece = piece
frames_after None [] = []
frames_after None (first ∷ rest) = if first == HELLO then rest else first ∷ rest

-- the bytes that have come are still unfinished, a whole frame, or too long
abbrev pub Makes : Step → List ℕ → Type 0
Makes (step.Unfinished held) bytes = (held ≡ bytes) × IsUnfinished bytes
Makes (step.Whole payload) bytes = IsWhole bytes payload.items
Makes step.TooLong bytes = IsTooLong bytes

-- some bytes were taken from the front of a piece and put behind those that were held
pub record Advances (held piece rest : List ℕ) (made : Step) : Type 0 where
  pub taken : List ℕ
  pub parts : piece ≡ taken ++ rest
  pub some : length rest < length piece
  pub makes : Makes made (held ++ taken)

-- cutting a piece, behind the bytes of an unfinished frame, gave these arrivals and left this stage
abbrev pub Cuts : List ℕ → List ℕ → List Arrival → Stage → Type 0
Cuts held piece arrivals stage = IsUnfinished held → HasReadTo stage (held ++ piece) arrivals
