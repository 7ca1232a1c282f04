-- The names of a table, as they are listed.
use Rattle.std.specs.Prelude.{ℕ, List, length, map}
use Rattle.std.specs.FinMap.{entries}
use Rattle.mac_keys.specs.declared.keys.KeyName.{KeyName}
use Rattle.mac_keys.specs.Keys.{NamedKeys, listed}

-- names with the numbers of their keys, apart from where the names lie
abbrev pub told : List KeyName → List (List ℕ × ℕ)
told names = map (λ name. (name.name.now, name.keys)) names

-- each name of the table once, in the order of their bytes, with the number of its keys
abbrev pub names_of : NamedKeys → List (List ℕ × ℕ)
names_of table = map (λ entry. (entry.0, length (listed entry.1))) (entries table)
