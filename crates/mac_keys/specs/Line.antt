-- A line of a key file by itself, a list of bytes without its line feed (the project's own format).
use Rattle.std.specs.Prelude.{ℕ, ◌+◌, ◌==◌, ◌&&◌, ◌||◌, nat_le, nat_eq, Bool, true, if◌then◌else◌, List, [], ◌∷◌, length, take, drop, codes, position, Option, Some, None, option_map, Result, Ok, Err}
use Rattle.std.specs.List.{list_all, starts_with}
use Rattle.std.specs.Char.{is_ascii_alphanumeric}
use Rattle.hex.specs.Hex.{decode_of}
use Rattle.hex.specs.declared.error.FromHexError.{FromHexError}
use Rattle.mac_keys.specs.declared.line.TheConstants.{NAME_MAX}
use Rattle.mac_keys.specs.declared.fault.LineFault.{LineFault}
use Rattle.mac_keys.specs.declared.fault.LineFault.TheVariants.{BadName, BadHex, EmptySecret, BadLine}

-- an empty line and a comment, which begins with `#` (35), say nothing
abbrev pub is_ignored : List ℕ → Bool
is_ignored [] = true
is_ignored (first ∷ others) = first == 35

-- a letter or a digit of ASCII, a dot (46), an underscore (95) or a dash (45)
abbrev pub is_name_byte : ℕ → Bool
is_name_byte b = is_ascii_alphanumeric b || (b == 46 || b == 95 || b == 45)

-- a name has 1 to 64 such bytes
abbrev pub is_name : List ℕ → Bool
is_name name = nat_le 1 (length name) && nat_le (length name) NAME_MAX && list_all is_name_byte name

abbrev pub is_space : ℕ → Bool
is_space b = b == 32

-- what stands before the first space, and what stands behind it
abbrev pub parted : List ℕ → Option (List ℕ × List ℕ)
parted rest =
    option_map (λ space. (take space rest, drop (space + 1) rest)) (position is_space rest)

-- the name and the digits of a line `key NAME HEX`, if it has this form
abbrev pub fields_of : List ℕ → Option (List ℕ × List ℕ)
fields_of line = if starts_with nat_eq line (codes "key ") then parted (drop 4 line) else None

-- the bytes of digits, or the fault that they are not hexadecimal, of either case, two a byte
-- (RFC 4648, section 8)
abbrev pub bytes_or_fault : Result (List ℕ) FromHexError → Result (List ℕ) LineFault
bytes_or_fault (Ok bytes) = Ok bytes
bytes_or_fault (Err why) = Err BadHex

-- the secret of digits, of which there have to be some
abbrev pub secret_of : List ℕ → Result (List ℕ) LineFault
secret_of digits = if length digits == 0 then Err EmptySecret else bytes_or_fault (decode_of digits)

-- a name, and the secret that a line gives it
pub record Given : Type 0 where
  pub name : List ℕ
  pub secret : List ℕ

-- the name with its secret, or what is wrong with that
abbrev pub given : List ℕ → Result (List ℕ) LineFault → Result (Option Given) LineFault
given name (Ok secret) = Ok (Some (record { name = name; secret = secret }))
given name (Err fault) = Err fault

-- what a line with these fields says: the form is tested first, then the name, then the secret
abbrev pub said_by : Option (List ℕ × List ℕ) → Result (Option Given) LineFault
said_by None = Err BadLine
said_by (Some fields) =
    if is_name fields.0 then given fields.0 (secret_of fields.1) else Err BadName

-- what a line says by itself: nothing, or a name's secret; else its first fault
abbrev pub line_of : List ℕ → Result (Option Given) LineFault
line_of line = if is_ignored line then Ok None else said_by (fields_of line)
