-- What a request line of the pipe stands for.
use Rattle.std.specs.Prelude.{ℕ, nat_le, if◌then◌else◌, List, [], length, Result, Ok, Err}
use Rattle.hex.specs.Hex.{decode_of}
use Rattle.hex.specs.declared.error.FromHexError.{FromHexError}
use Rattle.mac_wire.specs.declared.arrival.Arrival.{Arrival}
use Rattle.mac_wire.specs.declared.arrival.Arrival.TheVariants as arrival
use Rattle.mac_wire.specs.declared.arrival.TheConstants.{FRAME_MAX}

-- the bytes that were decoded; none where the text isn't hexadecimal
abbrev pub bytes_or_none : Result (List ℕ) FromHexError → List ℕ
bytes_or_none (Ok bytes) = bytes
bytes_or_none (Err why) = []

-- a payload, which arrives whole where a frame carries it
unfoldable pub arrival_of_payload : List ℕ → Arrival
arrival_of_payload payload =
    if nat_le (length payload) FRAME_MAX then arrival.Payload payload else arrival.Oversize

-- the arrival of a line: the payload that it spells in hexadecimal of either case
-- (RFC 4648, section 8)
unfoldable pub arrival_of : List ℕ → Arrival
arrival_of line = arrival_of_payload (bytes_or_none (decode_of line))
