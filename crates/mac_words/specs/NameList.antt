-- What is told of the names of a key file.
use Rattle.std.specs.Prelude.{ℕ, List, [], ◌∷◌, ◌++◌, codes, Option, Some, None}
use Rattle.std.specs.FinMap as map
use Rattle.std.specs.List.{flat_map}
use Rattle.mac_keys.specs.Names.{names_of}
use Rattle.mac_keys.specs.KeyTable.{Table}
use Rattle.mac_keys.specs.declared.keys.Keys.{Keys}
use Rattle.mac_calls.specs.Fingerprint.{fingerprint}

-- the fingerprint of a second key, behind that of the first
unfoldable pub second_words : List ℕ → List ℕ
second_words key = codes " and " ++ fingerprint key

-- that there is one key, or that there are two, and their fingerprints
abbrev pub key_words : List ℕ → Option (List ℕ) → List ℕ
key_words first None = codes ": one key, " ++ fingerprint first
key_words first (Some second) =
    codes ": two keys, " ++ (fingerprint first ++ second_words second)

-- the same of the keys of a name, if it has any
abbrev pub keys_words : Option Keys → List ℕ
keys_words None = []
keys_words (Some keys) = key_words keys.first keys.second

-- the line of a name with its keys
abbrev pub name_line : List ℕ → Option Keys → List ℕ
name_line name keys = name ++ (keys_words keys ++ 10 ∷ [])

-- the line of a name that a table has
abbrev pub line_of : Table → List ℕ × ℕ → List ℕ
line_of table entry = name_line entry.0 (map.get table.keys entry.0)

-- a line for each name
abbrev pub names_text : Table → List ℕ
names_text table = flat_map (line_of table) (names_of table.keys)
