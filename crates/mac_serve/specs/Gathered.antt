-- Replies on their way out: their frames are gathered, and go out together.
use Rattle.std.specs.Prelude.{◌≡◌, ℕ, ◌+◌, List, ◌++◌, length}
use Rattle.mac_wire.specs.Frame.{framed}

-- of the frames of these payloads the first `sent` went out, in `written` bytes, those up to place
-- `next` are gathered, and the others are not released yet
pub record Gathered (payloads : List (List ℕ)) (next sent written : ℕ)
    (gathered : List ℕ) : Type 0 where
  pub out : List (List ℕ)
  pub held : List (List ℕ)
  pub others : List (List ℕ)
  pub parts : payloads ≡ out ++ (held ++ others)
  pub is_sent : sent ≡ length out
  pub is_next : next ≡ length out + length held
  pub is_written : written ≡ length (framed out)
  pub is_gathered : gathered ≡ framed held
