-- For proofs: the bytes that a base64 text spells, as a function; law `base64_is_meant` ties it to
-- `IsBase64Of`.
use Rattle.std.specs.Prelude.{ℕ, ◌-◌, ◌==◌, ◌&&◌, nat_lt, Bool, true, false, not, if◌then◌else◌, List, length, slice_get, Option, Some, None, Result, Ok, Err}
use Rattle.std.specs.List.{list_all}
use Rattle.base64.specs.declared.decode.DecodeError.{DecodeError}
use Rattle.base64.specs.declared.engine.general_purpose.GeneralPurpose.{GeneralPurpose}
use Rattle.base64.specs.Engines.{standard, standard_no_pad, url_safe, url_safe_no_pad}
use Rattle.base64.specs.GeneralPurpose.{decode_of}

-- not `-` and not `_`, the letters that only the URL-safe alphabet has (RFC 4648, section 5)
abbrev pub is_no_url_letter : ℕ → Bool
is_no_url_letter letter = not (letter == 45) && not (letter == 95)

-- a text's last letter is the padding `=`
abbrev pub is_padding : Option ℕ → Bool
is_padding None = false
is_padding (Some letter) = letter == 61

-- the one engine that may read a text: its letters tell the alphabet, its last letter the padding
abbrev pub engine_for : Bool → Bool → GeneralPurpose
engine_for true true = standard
engine_for true false = standard_no_pad
engine_for false true = url_safe
engine_for false false = url_safe_no_pad

-- each is below 256
abbrev pub are_bytes : List ℕ → Bool
are_bytes bytes = list_all (λ b. nat_lt b 256) bytes

-- what was decoded, where it is bytes
abbrev pub decoded_bytes : Result (List ℕ) DecodeError → Option (List ℕ)
decoded_bytes (Ok bytes) = if are_bytes bytes then Some bytes else None
decoded_bytes (Err error) = None

-- the bytes that the text spells
unfoldable pub base64_bytes : List ℕ → Option (List ℕ)
base64_bytes text = if are_bytes text
    then decoded_bytes (decode_of (engine_for (list_all is_no_url_letter text)
    (is_padding (slice_get text (length text - 1)))) text)
    else None
