-- The bytes that have come of a frame, for the proofs of their reader.
use Rattle.std.specs.Prelude.{◌≡◌, ℕ, ◌+◌, ◌<◌, ◌≤◌, List, [], length, drop}
use Rattle.std.specs.Int.{w32, from_be_bytes}
use Rattle.mac_wire.specs.declared.arrival.TheConstants.{FRAME_MAX}
use Rattle.mac_wire.specs.Frame.{told_length}

-- a whole frame, and its payload
pub record IsWhole (bytes payload : List ℕ) : Type 0 where
  pub long : 4 ≤ length bytes
  pub allowed : told_length bytes ≤ FRAME_MAX
  pub complete : length bytes ≡ 4 + told_length bytes
  pub is_payload : payload ≡ drop 4 bytes

-- the length tells more than is allowed
pub record IsTooLong (bytes : List ℕ) : Type 0 where
  pub long : 4 ≤ length bytes
  pub passed : FRAME_MAX < told_length bytes

-- The parts of an unfinished frame: as many bytes of the length as have come, and the payload's
-- bytes, of which there are none before the length is whole, and fewer than it tells.
pub record IsPartial (told : List ℕ) (have : ℕ) (payload : List ℕ) : Type 0 where
  pub four : length told ≡ 4
  pub have_fits : have ≤ 4
  pub none_before : have < 4 → payload ≡ []
  pub allowed : have ≡ 4 → from_be_bytes w32 told ≤ FRAME_MAX
  pub missing : have ≡ 4 → length payload < from_be_bytes w32 told
