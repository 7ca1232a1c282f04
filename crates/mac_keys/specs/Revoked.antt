-- Tokens that were taken back: a list of names with identifiers, as a text (the project's own format).
use Rattle.std.specs.Prelude.{◌≡◌, ℕ, ◌+◌, nat_eq, Bool, not, if◌then◌else◌, List, [], ◌∷◌, length, filter, drop, take, codes, Option, Some, None, unwrap_or, Result, Ok, Err, map as map_list}
use Rattle.std.specs.List.{starts_with, slice_get, list_any, All}
use Rattle.std.specs.Str.{bytes_eq}
use Rattle.std.specs.Ordering.{nat_cmp}
use Rattle.std.specs.Cmp.Lexicographic.{slice_cmp}
use Rattle.std.specs.FinMap as map
use Rattle.std.specs.FinSet as set
use Rattle.std.specs.declared.vec.Vec.{Vec}
use Rattle.std.specs.declared.alloc.Global.{Global}
use Rattle.hex.specs.Hex.{decode_of}
use Rattle.hex.specs.declared.error.FromHexError.{FromHexError}
use Rattle.mac_keys.specs.declared.revoked_fault.RevokedLineFault.{RevokedLineFault}
use Rattle.mac_keys.specs.declared.revoked_fault.RevokedLineFault.TheVariants.{BadName, BadHex, BadLine}
use Rattle.mac_keys.specs.declared.revoked_fault.RevokedFault.{RevokedFault}
use Rattle.mac_keys.specs.declared.revoked_fault.RevokedFault.TheVariants.{Line}
use Rattle.mac_keys.specs.Line.{is_ignored, is_name, parted}
use Rattle.mac_keys.specs.Table.{lines_of}

-- identifiers, each as its bytes
abbrev pub Identifiers : Type 0
Identifiers = set.FinSet (slice_cmp nat_cmp)

-- each name, as its bytes, with the identifiers of its tokens that were taken back
abbrev pub Revoked : Type 0
Revoked = map.FinMap (slice_cmp nat_cmp) Identifiers

-- nothing was taken back
abbrev pub nothing : Revoked
nothing = map.empty

-- the identifiers of a name
abbrev pub identifiers_of : Revoked → List ℕ → Identifiers
identifiers_of list name = unwrap_or (map.get list name) set.empty

-- whether tokens of this name with this identifier were taken back
abbrev pub is_listed : Revoked → List ℕ → List ℕ → Bool
is_listed list name identifier = set.contains (identifiers_of list name) identifier

-- identifiers by their bytes, apart from where these lie
abbrev pub by_bytes : List (Vec ℕ Global) → List (List ℕ)
by_bytes keys = map_list (λ key. key.items) keys

-- ---- a line

-- a name, and an identifier of its tokens
pub record TakenBack : Type 0 where
  pub name : List ℕ
  pub identifier : List ℕ

-- the name and the digits of a line `revoked NAME HEX`, if it has this form
abbrev pub revoked_fields : List ℕ → Option (List ℕ × List ℕ)
revoked_fields line =
    if starts_with nat_eq line (codes "revoked ") then parted (drop 8 line) else None

-- the name with the bytes of the digits, which are hexadecimal, of either case, two a byte (RFC
-- 4648, section 8)
abbrev pub with_identifier : List ℕ → Result (List ℕ) FromHexError
    → Result (Option TakenBack) RevokedLineFault
with_identifier name (Ok identifier) =
    Ok (Some (record { name = name; identifier = identifier }))
with_identifier name (Err why) = Err BadHex

-- what a line with these fields says: the form is tested first, then the name, then the digits
abbrev pub revoked_by : Option (List ℕ × List ℕ) → Result (Option TakenBack) RevokedLineFault
revoked_by None = Err BadLine
revoked_by (Some fields) =
    if is_name fields.0 then with_identifier fields.0 (decode_of fields.1) else Err BadName

-- what a line says: nothing, or what is taken back; else its first fault
abbrev pub revoked_line : List ℕ → Result (Option TakenBack) RevokedLineFault
revoked_line line = if is_ignored line then Ok None else revoked_by (revoked_fields line)

-- ---- the whole text

-- the list with what one more line says
abbrev pub with_said : Revoked → Option TakenBack → Revoked
with_said list None = list
with_said list (Some t) =
    map.insert list t.name (set.insert (identifiers_of list t.name) t.identifier)

-- the list after the line of this number, or its fault
abbrev pub after_said : ℕ → Revoked → Result (Option TakenBack) RevokedLineFault
    → Result Revoked RevokedFault
after_said number list (Ok said) = Ok (with_said list said)
after_said number list (Err kind) = Err (Line number kind)

abbrev pub after_line : ℕ → Revoked → List ℕ → Result Revoked RevokedFault
after_line number list line = after_said number list (revoked_line line)

-- what follows, unless there was a fault
abbrev pub or_fault : Result Revoked RevokedFault → (Revoked → Result Revoked RevokedFault)
    → Result Revoked RevokedFault
or_fault (Ok list) next = next list
or_fault (Err fault) next = Err fault

-- the list after all these lines, the first of which has this number, or the first fault
abbrev pub after_lines : ℕ → Revoked → List (List ℕ) → Result Revoked RevokedFault
after_lines number list [] = Ok list
after_lines number list (line ∷ lines) =
    or_fault (after_line number list line) (λ next. after_lines (number + 1) next lines)

-- what a text takes back; its lines are numbered from 1
abbrev pub revoked_of : List ℕ → Result Revoked RevokedFault
revoked_of text = after_lines 1 nothing (lines_of text)

-- how many lines say something
abbrev pub count_said : List ℕ → ℕ
count_said text = length (filter (λ line. not (is_ignored line)) (lines_of text))

-- whether a text says by a line `# none` that it is meant to take nothing back
abbrev pub means_none : List ℕ → Bool
means_none text = list_any (λ line. bytes_eq line (codes "# none")) (lines_of text)

-- ---- what it means

-- the line takes tokens of the name with the identifier back
abbrev pub Says : List ℕ → List ℕ → List ℕ → Type 0
Says name identifier line =
    revoked_line line ≡ Ok (Some (record { name = name; identifier = identifier }))

-- no line has a fault
abbrev pub AreSound : List (List ℕ) → Type 0
AreSound lines = All (λ line. (kind : RevokedLineFault) → ¬ (revoked_line line ≡ Err kind)) lines

-- the line of this number, counted from 1, has this fault, and none above it has any
pub record IsFirstBad (lines : List (List ℕ)) (number : ℕ) (kind : RevokedLineFault) : Type 0 where
  pub place : ℕ
  pub line : List ℕ
  pub there : slice_get lines place ≡ Some line
  pub found : revoked_line line ≡ Err kind
  pub above : AreSound (take place lines)
  pub numbered : number ≡ place + 1
