-- What the reader of a key file does with a line, for the contracts of its parts.
use Rattle.std.specs.Prelude.{◌≡◌, ℕ, ◌+◌, List, Option, Some, None, unwrap_or, Result, Ok, Err}
use Rattle.std.specs.FinMap.{get, insert}
use Rattle.mac_hmac.specs.Chain.{root_of}
use Rattle.mac_keys.specs.declared.fault.LineFault.{LineFault}
use Rattle.mac_keys.specs.declared.fault.KeyFault.{KeyFault}
use Rattle.mac_keys.specs.declared.fault.KeyFault.TheVariants as faults
use Rattle.mac_keys.specs.declared.keys.Keys.{Keys}
use Rattle.mac_keys.specs.declared.line.Refusal.{Refusal}
use Rattle.mac_keys.specs.declared.line.Refusal.TheVariants.{Line, Memory}
use Rattle.mac_keys.specs.Line.{Given}
use Rattle.mac_keys.specs.Table.{NamedKeys}

-- a name's keys once it gets another: a third is left out
abbrev pub keys_with : Option Keys → List ℕ → Keys
keys_with None key = record { first = key; second = None }
keys_with (Some keys) key =
    record { first = keys.first; second = Some (unwrap_or keys.second key) }

-- a name gets these keys where it has no fault, and else the fault is told
abbrev pub Gets : Result Keys LineFault → Option LineFault → Keys → Type 0
Gets (Ok given) fault keys = (fault ≡ None) × (given ≡ keys)
Gets (Err told) fault keys = fault ≡ Some told

-- the table, with the key that a line gives a name
abbrev pub table_with : NamedKeys → Result (Option Given) LineFault → NamedKeys
table_with table (Err fault) = table
table_with table (Ok None) = table
table_with table (Ok (Some g)) =
    insert table g.name (keys_with (get table g.name) (root_of g.secret))

-- the refusal is for this fault, unless memory runs out
abbrev pub IsFor : Option LineFault → Refusal → Type 0
IsFor found (Line fault) = found ≡ Some fault
IsFor found Memory = Unit {0}

-- the fault of a refused line at a place, counted from 0
abbrev pub fault_of_line : ℕ → Refusal → KeyFault
fault_of_line index (Line fault) = faults.Line (index + 1) fault
fault_of_line index Memory = faults.Memory
