-- The first frame of some bytes, and the bytes behind it. The format is this project's own.
use Rattle.std.specs.Prelude.{◌≡◌, ℕ, ◌+◌, ◌<◌, ◌≤◌, List, length, take, drop}
use Rattle.mac_wire.specs.declared.cut.Cut.{Cut}
use Rattle.mac_wire.specs.declared.cut.Cut.TheVariants as cut
use Rattle.mac_wire.specs.Frame.{told_length}

-- a whole frame is in front, which tells at most that many bytes: its payload, and the rest
pub record IsFront (most : ℕ) (bytes payload rest : List ℕ) : Type 0 where
  pub long : 4 ≤ length bytes
  pub allowed : told_length bytes ≤ most
  pub whole : 4 + told_length bytes ≤ length bytes
  pub payload_is : payload ≡ take (told_length bytes) (drop 4 bytes)
  pub rest_is : rest ≡ drop (4 + told_length bytes) bytes

-- what stands in front, row by row
abbrev pub IsCut : ℕ → List ℕ → Cut → Type 0
IsCut most bytes (cut.Whole payload rest) = IsFront most bytes payload.now rest.now
IsCut most bytes cut.Unfinished =
    4 ≤ length bytes → (told_length bytes ≤ most) × (length bytes < 4 + told_length bytes)
IsCut most bytes (cut.TooLong told) =
    (4 ≤ length bytes) × (told ≡ told_length bytes) × (most < told)
