-- What operators are told of keys.
use Rattle.std.specs.Prelude.{ℕ, List, [], ◌++◌, codes, Option, Some, None}
use Rattle.std.specs.FinMap as map
use Rattle.std.specs.List.{flat_map}
use Rattle.mac_calls.specs.Fingerprint.{fingerprint}
use Rattle.mac_keys.specs.KeyTable.{Table}
use Rattle.mac_keys.specs.Names.{names_of}
use Rattle.mac_keys.specs.declared.keys.Keys.{Keys}

-- the fingerprint of a key behind a space, if there is one
abbrev pub second_text : Option (List ℕ) → List ℕ
second_text None = []
second_text (Some key) = codes " " ++ fingerprint key

-- those of the keys of a name, if it has any, the first one's first
abbrev pub keys_text : Option Keys → List ℕ
keys_text None = []
keys_text (Some keys) = codes " " ++ (fingerprint keys.first ++ second_text keys.second)

-- the line of a name with its keys
abbrev pub key_line : List ℕ → Option Keys → List ℕ
key_line name keys = codes "key " ++ (name ++ (keys_text keys ++ codes "\n"))

-- the line of a name that a table has
abbrev pub line_of : Table → List ℕ × ℕ → List ℕ
line_of table entry = key_line entry.0 (map.get table.keys entry.0)

-- a line for each name
abbrev pub key_lines : Table → List ℕ
key_lines table = flat_map (line_of table) (names_of table.keys)

-- the same of a table that may be told, and nothing of one that may not
abbrev pub told_lines : Option Table → List ℕ
told_lines None = []
told_lines (Some table) = key_lines table
