-- Where a line of a name is found, for the contracts of the parts of a change.
use Rattle.std.specs.Prelude.{◌≡◌, ◌⊎◌, ℕ, ◌≤◌, ◌==◌, Bool, true, false, List, [], ◌∷◌, ◌++◌}
use Rattle.std.specs.Prelude.{length, take, drop}
use Rattle.std.specs.Option.{option_map_or}
use Rattle.std.specs.List.{All, count_by}
use Rattle.std.specs.Str.{bytes_eq}
use Rattle.mac_keys.specs.Line.{fields_of}
use Rattle.mac_keys.specs.Change.{AreWhole}

-- the line has the form of a key line and this name
abbrev pub is_line_of : List ℕ → List ℕ → Bool
is_line_of name line = option_map_or (λ fields. bytes_eq fields.0 name) (fields_of line) false

-- no line feed stands in it
abbrev pub IsUnbroken : List ℕ → Type 0
IsUnbroken line = All (λ byte. (byte == 10) ≡ false) line

-- the line stands between two places of the text, below so many others of the name
pub record IsFound (name text : List ℕ) (above start end : ℕ) : Type 0 where
  pub lines : List (List ℕ)
  pub line : List ℕ
  pub whole : AreWhole lines (take start text)
  pub count : count_by (is_line_of name) lines ≡ above
  pub named : is_line_of name line ≡ true
  pub unbroken : IsUnbroken line
  pub ended : (drop start text ≡ line ++ 10 ∷ drop end text)
      ⊎ ((drop start text ≡ line) × (drop end text ≡ []))
  pub order : start ≤ end
  pub within : end ≤ length text
