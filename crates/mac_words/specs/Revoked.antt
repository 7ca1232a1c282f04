-- Lines of a list of tokens that were taken back, as they are made and taken out.
use Rattle.std.specs.Prelude.{◌≡◌, ◌==◌, ℕ, Bool, false, not, List, [], ◌∷◌, ◌++◌, codes, filter, if◌then◌else◌, IsTrue, Result, Ok, Err}
use Rattle.std.specs.Fmt.{decimal}
use Rattle.std.specs.List.{ends_with}
use Rattle.std.specs.declared.alloc.Global.{Global}
use Rattle.std.specs.declared.vec.Vec.{Vec}
use Rattle.hex.specs.Hex.{encode_lower}
use Rattle.mac_keys.specs.Line.{is_name}
use Rattle.mac_keys.specs.Revoked.{Revoked, count_said, is_listed, revoked_of}
use Rattle.mac_keys.specs.Table.{lines_of}
use Rattle.mac_keys.specs.declared.revoked_fault.RevokedFault.{RevokedFault}
use Rattle.mac_words.specs.declared.key_lines.NameFault.{NameFault}
use Rattle.mac_words.specs.declared.key_lines.NameFault.TheVariants as fault

-- the line that takes tokens of a name with an identifier back
abbrev pub revoked_text : List ℕ → List ℕ → List ℕ
revoked_text name identifier =
    codes "revoked " ++ (name ++ 32 ∷ (encode_lower identifier ++ 10 ∷ []))

-- the line, or that the name is none, or that memory ran out
abbrev pub GivesRevoked : List ℕ → List ℕ → Result (Vec ℕ Global) NameFault → Type 0
GivesRevoked name identifier (Ok line) =
    IsTrue (is_name name) × (line.items ≡ revoked_text name identifier)
GivesRevoked name identifier (Err fault.BadName) = ¬ IsTrue (is_name name)
GivesRevoked name identifier (Err fault.Memory) = Unit {0}

-- how many lines of a list that has no fault take tokens back
abbrev pub count_text : List ℕ → List ℕ
count_text text = codes "revoked lines: " ++ (decimal (count_said text) ++ 10 ∷ [])

-- the text with its last line ended
abbrev pub ended : List ℕ → List ℕ
ended [] = []
ended (b ∷ text) =
    if ends_with (λ c d. c == d) (b ∷ text) (10 ∷ []) then b ∷ text else (b ∷ text) ++ 10 ∷ []

-- the line alone takes tokens of the name with the identifier back
abbrev pub says_of : List ℕ → List ℕ → Result Revoked RevokedFault → Bool
says_of name identifier (Ok list) = is_listed list name identifier
says_of name identifier (Err why) = false

abbrev pub says : List ℕ → List ℕ → List ℕ → Bool
says name identifier line = says_of name identifier (revoked_of line)

-- lines with a line feed between each two
abbrev pub joined : List (List ℕ) → List ℕ
joined [] = []
joined (line ∷ []) = line
joined (line ∷ next ∷ lines) = line ++ 10 ∷ joined (next ∷ lines)

-- the text without the lines that take tokens of the name with the identifier back
abbrev pub kept_lines : List ℕ → List ℕ → List ℕ → List ℕ
kept_lines name identifier text =
    joined (filter (λ line. not (says name identifier line)) (lines_of text))
