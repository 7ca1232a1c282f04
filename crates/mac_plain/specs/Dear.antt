-- Which requests are too dear for a loop (this project's own).
use Rattle.std.specs.Prelude.{◌≡◌, ℕ, ◌+◌, ◌≤◌, ◌<◌, ◌⊎◌, Bool, false, IsTrue, List, length, take, drop, Option, Some, None, All, unwrap_or, ◌*◌, if◌then◌else◌, nat_lt, slice_get, ◌==◌, ◌&&◌, ◌||◌}
use Rattle.mac_wire.specs.Frame.{told_length}
use Rattle.mac_wire.specs.declared.arrival.Arrival.{Arrival}
use Rattle.mac_wire.specs.declared.arrival.Arrival.TheVariants as arrival
use Rattle.mac_wire.specs.Reading.{key_name_of, request_kind_of}
use Rattle.mac_wire.specs.declared.arrival.TheConstants.{FRAME_MAX}
use Rattle.mac_wire.specs.declared.request.RequestKind.{RequestKind}
use Rattle.mac_wire.specs.declared.request.RequestKind.TheVariants as request_kind
use Rattle.mac_plain.specs.declared.dear.TheConstants.{COMPARED_MAX, LONG}

-- a byte of a payload, if it has so many, is one of two
abbrev pub is_either : ℕ → ℕ → Option ℕ → Bool
is_either a b (Some byte) = (byte == a) || (byte == b)
is_either a b None = false

-- JSON begins with `{`, which is 123, and its base64 text with `e`, which is 101
abbrev pub begins_json : Option ℕ → Bool
begins_json byte = is_either 123 101 byte

-- where the token stands that a payload brings: behind an attenuate's number and form, or behind a
-- verify's number and key name, and behind the token's length
abbrev pub place_behind : Option RequestKind → Option (List ℕ) → Option ℕ
place_behind (Some request_kind.Attenuate) name = Some 4
place_behind (Some request_kind.Verify) (Some name) = Some (length name + 4)
place_behind (Some request_kind.Verify) None = None
place_behind (Some request_kind.Mint) name = None
place_behind None name = None

abbrev pub token_place : List ℕ → Option ℕ
token_place payload = place_behind (request_kind_of payload) (key_name_of payload)

-- a payload brings a token in JSON
abbrev pub json_at : List ℕ → Option ℕ → Bool
json_at payload (Some place) = begins_json (slice_get payload place)
json_at payload None = false

abbrev pub brings_json : List ℕ → Bool
brings_json payload = json_at payload (token_place payload)

-- the form in which a mint or an attenuate asks for a token is JSON, whose number is 3
abbrev pub form_is_json : Option RequestKind → Option ℕ → Bool
form_is_json (Some request_kind.Mint) byte = is_either 3 3 byte
form_is_json (Some request_kind.Attenuate) byte = is_either 3 3 byte
form_is_json (Some request_kind.Verify) byte = false
form_is_json None byte = false

abbrev pub asks_json : List ℕ → Bool
asks_json payload = form_is_json (request_kind_of payload) (slice_get payload 1)

-- a byte of a payload, or 0 where it hasn't so many
abbrev pub byte_of : List ℕ → ℕ → ℕ
byte_of payload place = unwrap_or (slice_get payload place) 0

-- how long the token of a verify is, behind a name of that length
abbrev pub token_length : List ℕ → ℕ → ℕ
token_length payload name = byte_of payload (name + 2) * 256 + byte_of payload (name + 3)

-- where a verify tells how many facts it has: behind the token, and a moment of eight bytes where
-- its number is 3
abbrev pub facts_place : List ℕ → ℕ → ℕ
facts_place payload name =
    name + 4 + token_length payload name + (if byte_of payload 0 == 3 then 8 else 0)

-- how many bytes a verify compares at most: those of its token with each fact
abbrev pub compared_by : Option RequestKind → Option (List ℕ) → List ℕ → ℕ
compared_by (Some request_kind.Verify) (Some name) payload =
    byte_of payload (facts_place payload (length name)) * token_length payload (length name)
compared_by (Some request_kind.Verify) None payload = 0
compared_by (Some request_kind.Mint) name payload = 0
compared_by (Some request_kind.Attenuate) name payload = 0
compared_by None name payload = 0

abbrev pub compared : List ℕ → ℕ
compared payload = compared_by (request_kind_of payload) (key_name_of payload) payload

-- A payload is too dear for a loop where it is long, and brings JSON or asks for it, or has much to
-- be compared.
abbrev pub is_dear : List ℕ → Bool
is_dear payload = nat_lt LONG (length payload)
    && (brings_json payload || asks_json payload || nat_lt COMPARED_MAX (compared payload))

-- none of these payloads is
abbrev pub AreCheap : List (List ℕ) → Type 0
AreCheap payloads = All (λ p. is_dear p ≡ false) payloads

-- what a connection goes wide for, in front of these bytes: a length that no frame has, or a whole
-- frame whose payload is too dear for a loop
abbrev pub GoesWide : List ℕ → Type 0
GoesWide bytes = (4 ≤ length bytes)
    × ((FRAME_MAX < told_length bytes)
    ⊎ ((told_length bytes ≤ FRAME_MAX) × (4 + told_length bytes ≤ length bytes)
    × IsTrue (is_dear (take (told_length bytes) (drop 4 bytes)))))

-- the arrival that stands in front of these bytes, where one goes wide for it
abbrev pub front_of : List ℕ → Arrival
front_of bytes =
    if nat_lt FRAME_MAX (told_length bytes) then arrival.Oversize
    else arrival.Payload (take (told_length bytes) (drop 4 bytes))
