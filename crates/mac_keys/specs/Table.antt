-- A key file as a whole: the table that its lines make, or the first of them that has a fault
-- (the project's own format).
use Rattle.std.specs.Prelude.{ℕ, ◌+◌, ◌==◌, nat_le, Bool, if◌then◌else◌, List, [], ◌∷◌, take, Option, Some, None, option_map, Result, Ok, Err}
use Rattle.std.specs.Option.{is_some}
use Rattle.std.specs.List.{filter_map, enumerate_from, slice_split}
use Rattle.std.specs.Str.{bytes_eq}
use Rattle.std.specs.FinMap.{from_entries, get, len}
use Rattle.mac_hmac.specs.Chain.{root_of}
use Rattle.mac_keys.specs.declared.key_map.TheConstants.{NAMES_MAX}
use Rattle.mac_keys.specs.declared.keys.Keys.{Keys}
use Rattle.mac_keys.specs.declared.fault.LineFault.{LineFault}
use Rattle.mac_keys.specs.declared.fault.LineFault.TheVariants.{Twice, TooMany}
use Rattle.mac_keys.specs.declared.fault.KeyFault.{KeyFault}
use Rattle.mac_keys.specs.declared.fault.KeyFault.TheVariants as faults
use Rattle.mac_keys.specs.Line.{Given, line_of}
pub use Rattle.mac_keys.specs.Keys.{NamedKeys, listed}

abbrev pub is_line_feed : ℕ → Bool
is_line_feed b = b == 10

-- the lines: what stands between the line feeds; behind a last one stands an empty line
abbrev pub lines_of : List ℕ → List (List ℕ)
lines_of text = slice_split is_line_feed text

-- the root key that is derived from the secret, where the line gives it to this name
abbrev pub key_said : List ℕ → Result (Option Given) LineFault → Option (List ℕ)
key_said name (Ok (Some g)) = if bytes_eq g.name name then Some (root_of g.secret) else None
key_said name (Ok None) = None
key_said name (Err fault) = None

-- the root keys of the secrets that the lines give a name, in the order of the lines
abbrev pub keys_given : List ℕ → List (List ℕ) → List (List ℕ)
keys_given name lines = filter_map (λ line. key_said name (line_of line)) lines

-- the first two of these, if there is any
abbrev pub first_two : List (List ℕ) → Option Keys
first_two [] = None
first_two (first ∷ []) = Some (record { first = first; second = None })
first_two (first ∷ second ∷ others) = Some (record { first = first; second = Some second })

-- the name to which a line gives a secret, with the keys that all lines give it
abbrev pub entry_said : List (List ℕ) → Result (Option Given) LineFault → Option (List ℕ × Keys)
entry_said lines (Ok (Some g)) =
    option_map (λ keys. (g.name, keys)) (first_two (keys_given g.name lines))
entry_said lines (Ok None) = None
entry_said lines (Err fault) = None

-- the map from each name to which a line gives a secret to its keys
abbrev pub keys_of : List (List ℕ) → NamedKeys
keys_of lines = from_entries (filter_map (λ line. entry_said lines (line_of line)) lines)

-- a name that has two keys may not get another, and a table has no more than 1,000 names
abbrev pub fault_of_keys : ℕ → Option Keys → Option LineFault
fault_of_keys names None = if nat_le NAMES_MAX names then Some TooMany else None
fault_of_keys names (Some keys) = if is_some keys.second then Some Twice else None

abbrev pub fault_of_name : NamedKeys → List ℕ → Option LineFault
fault_of_name table name = fault_of_keys (len table) (get table name)

-- what is wrong with what a line says, where the lines above it make this table
abbrev pub fault_below : NamedKeys → Result (Option Given) LineFault → Option LineFault
fault_below table (Err fault) = Some fault
fault_below table (Ok None) = None
fault_below table (Ok (Some g)) = fault_of_name table g.name

-- what is wrong with the line at a place, counted from 0; with its number, counted from 1
abbrev pub fault_at : List (List ℕ) → ℕ × List ℕ → Option (ℕ × LineFault)
fault_at lines line =
    option_map (λ fault. (line.0 + 1, fault))
    (fault_below (keys_of (take line.0 lines)) (line_of line.1))

-- the faults of all lines, in the order of the lines
abbrev pub faults_of : List (List ℕ) → List (ℕ × LineFault)
faults_of lines = filter_map (fault_at lines) (enumerate_from 0 lines)

-- the table where no line has a fault, and else the first fault
abbrev pub table_or_first : NamedKeys → List (ℕ × LineFault) → Result NamedKeys KeyFault
table_or_first table [] = Ok table
table_or_first table (first ∷ others) = Err (faults.Line first.0 first.1)

-- what a key file says
abbrev pub table_of : List ℕ → Result NamedKeys KeyFault
table_of text = table_or_first (keys_of (lines_of text)) (faults_of (lines_of text))
