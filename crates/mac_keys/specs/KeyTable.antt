-- What contracts see of a key table: its names with their keys, and what was taken back.
use Rattle.std.specs.Prelude.{ℕ, List, Result, Ok, Err}
use Rattle.mac_keys.specs.Keys.{NamedKeys}
use Rattle.mac_keys.specs.Revoked.{nothing}
use Rattle.mac_keys.specs.Table as named
use Rattle.mac_keys.specs.declared.fault.KeyFault.{KeyFault}
use Rattle.mac_keys.specs.declared.key_table.KeyTable.{KeyTable}

-- names with their keys, and beside them a list of tokens that were taken back
abbrev pub Table : Type 0
Table = KeyTable

-- names with their keys, where nothing was taken back
abbrev pub bare : NamedKeys → Table
bare keys = record { keys = keys; revoked = nothing }

abbrev pub bare_or_fault : Result NamedKeys KeyFault → Result Table KeyFault
bare_or_fault (Ok keys) = Ok (bare keys)
bare_or_fault (Err fault) = Err fault

-- what a key file says: nothing is taken back there
abbrev pub table_of : List ℕ → Result Table KeyFault
table_of text = bare_or_fault (named.table_of text)
