-- Frames, and the arrivals of a run of them. The format is this project's own.
use Rattle.std.specs.Prelude.{◌≡◌, ℕ, zero, suc, ◌+◌, ◌<◌, ◌≤◌, List, [], ◌∷◌, ◌++◌, length, take, drop, nat_lt, ◌==◌, if◌then◌else◌}
use Rattle.std.specs.Int.{w32, to_be_bytes, from_be_bytes}
use Rattle.std.specs.List.{flat_map}
use Rattle.mac_wire.specs.declared.arrival.Arrival.{Arrival}
use Rattle.mac_wire.specs.declared.arrival.Arrival.TheVariants as arrival
use Rattle.mac_wire.specs.declared.arrival.Ending.{Ending}
use Rattle.mac_wire.specs.declared.arrival.Ending.TheVariants as ending
use Rattle.mac_wire.specs.declared.arrival.TheConstants.{FRAME_MAX}

-- a frame: the payload's length in four bytes, the high one first, and the payload
abbrev pub frame : List ℕ → List ℕ
frame payload = to_be_bytes w32 (length payload) ++ payload

-- the frames of payloads, one after the other
abbrev pub framed : List (List ℕ) → List ℕ
framed payloads = flat_map frame payloads

-- the arrivals of a run of frames, in order, and how it ended
pub record Frames : Type 0 where
  pub arrived : List Arrival
  pub ending : Ending

-- the payload's length that the first four bytes tell
abbrev pub told_length : List ℕ → ℕ
told_length bytes = from_be_bytes w32 (take 4 bytes)

-- less than a whole frame: once its length has come, that is allowed, and a part of the payload is
-- missing
abbrev pub IsUnfinished : List ℕ → Type 0
IsUnfinished bytes =
    4 ≤ length bytes → (told_length bytes ≤ FRAME_MAX) × (length bytes < 4 + told_length bytes)

-- some arrivals, and then those of what follows
abbrev pub followed_by : List Arrival → Frames → Frames
followed_by front rest = record { arrived = front ++ rest.arrived; ending = rest.ending }

-- The arrivals of at most that many frames: none and Clean where nothing is left; none and Torn
-- where a length is cut; one Oversize, whatever follows, where a length passes the greatest; none
-- and Torn where a payload is cut; else the payload, and then the arrivals of what follows it.
unfoldable pub frames_within : ℕ → List ℕ → Frames
frames_within zero bytes = record { arrived = []; ending = ending.Clean }
frames_within (suc frames) bytes =
    if length bytes == 0 then record { arrived = []; ending = ending.Clean }
    else if nat_lt (length bytes) 4 then record { arrived = []; ending = ending.Torn }
    else if nat_lt FRAME_MAX (told_length bytes)
    then record { arrived = arrival.Oversize ∷ []; ending = ending.Oversize }
    else if nat_lt (length bytes) (4 + told_length bytes)
    then record { arrived = []; ending = ending.Torn }
    else followed_by (arrival.Payload (take (told_length bytes) (drop 4 bytes)) ∷ [])
    (frames_within frames (drop (4 + told_length bytes) bytes))

-- the arrivals of frames: no frame is empty, so there are at most as many frames as bytes
unfoldable pub frames_of : List ℕ → Frames
frames_of bytes = frames_within (length bytes) bytes

-- however the frames go on, these are their arrivals, and then those of the rest and of what comes
abbrev pub Arrive : List ℕ → List Arrival → List ℕ → Type 0
Arrive frames arrived rest =
    (more : List ℕ) → frames_of (frames ++ more) ≡ followed_by arrived (frames_of (rest ++ more))
