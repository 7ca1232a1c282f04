-- How many frames are there whole. The format is this project's own.
use Rattle.std.specs.Prelude.{ℕ, ◌+◌, ◌<◌, ◌≤◌, List, length, take}
use Rattle.mac_wire.specs.Frame.{framed}

-- the first n bytes of the frames of these payloads hold this many frames whole, and not one more
pub record HasWhole (payloads : List (List ℕ)) (n count : ℕ) : Type 0 where
  pub there : count ≤ length payloads
  pub whole : length (framed (take count payloads)) ≤ n
  pub cut : count < length payloads → n < length (framed (take (count + 1) payloads))
