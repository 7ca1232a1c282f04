-- How people write and see a token.
use Rattle.std.specs.Prelude.{ℕ, ◌==◌, nat_eq, if◌then◌else◌, List, ◌++◌, codes, drop, slice_index, Result, Ok, IsErr}
use Rattle.std.specs.List.{starts_with}
use Rattle.hex.specs.Hex.{decode_of, encode_lower}
use Rattle.hex.specs.declared.error.FromHexError.{FromHexError}
use Rattle.mac_words.specs.declared.fault.TextFault.{TextFault}
use Rattle.mac_words.specs.declared.fault.TextFault.TheVariants as fault

-- the bytes of a token as it is written: the digits behind `hex:`, or the text itself
abbrev pub bytes_told : List ℕ → Result (List ℕ) FromHexError
bytes_told text = if starts_with nat_eq text (codes "hex:") then decode_of (drop 4 text) else Ok text

-- a token as it is printed: V2 binary, which begins with the byte 2, behind `hex:`
abbrev pub token_text : List ℕ → List ℕ
token_text token =
    if slice_index token 0 == 2 then codes "hex:" ++ encode_lower token else token

-- the fault tells that there are no such bytes, or that memory ran out
abbrev pub IsToldBadly : Result (List ℕ) FromHexError → TextFault → Type 0
IsToldBadly told fault.Memory = Unit {0}
IsToldBadly told fault.BadHex = IsErr told
