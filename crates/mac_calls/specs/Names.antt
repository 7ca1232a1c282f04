-- The names of a table as JSON (this project's own). The letters of a name need no escape.
use Rattle.std.specs.Prelude.{ℕ, List, [], ◌∷◌, ◌++◌, map, codes}
use Rattle.std.specs.List.{flat_map}
use Rattle.mac_keys.specs.Names.{names_of}
use Rattle.mac_keys.specs.KeyTable.{Table}

abbrev pub quoted : List ℕ → List ℕ
quoted name = codes "\"" ++ (name ++ codes "\"")

abbrev pub behind_comma : List ℕ → List ℕ
behind_comma name = codes "," ++ quoted name

-- the items of a list, with commas between them
abbrev pub items_text : List (List ℕ) → List ℕ
items_text [] = []
items_text (name ∷ names) = quoted name ++ flat_map behind_comma names

-- the names of what is told of them
abbrev pub names_in : List (List ℕ × ℕ) → List (List ℕ)
names_in entries = map (λ entry. entry.0) entries

-- each name of the table once, in the order of their bytes
abbrev pub names_json : Table → List ℕ
names_json table =
    codes "{\"names\":[" ++ (items_text (names_in (names_of table.keys)) ++ codes "]}")
