-- What the parts of a run promise one another. Nobody needs this page to read what `pipe` promises.
use Rattle.std.specs.Prelude.{◌≡◌, ℕ, ◌+◌, ◌≤◌, List, ◌++◌, length, Result, Ok, Err}
use Rattle.std.specs.declared.vec.Vec.{Vec}
use Rattle.std.specs.declared.alloc.Global.{Global}
use Rattle.mac_keys.specs.KeyTable.{Table}
use Rattle.mac_keys.specs.Revoked.{Revoked}
use Rattle.mac_keys.specs.declared.fault.KeyFault.{KeyFault}
use Rattle.mac_keys.specs.declared.fault.KeyFault.TheVariants as key
use Rattle.mac_commands.specs.declared.fault.PipeFault.{PipeFault}
use Rattle.mac_commands.specs.declared.fault.PipeFault.TheVariants as fault
use Rattle.mac_commands.specs.declared.input.TheConstants.{INPUT_MAX}
use Rattle.mac_commands.specs.Output.{Begins}

-- what reading took: the text that it gives, or what a run that fails so has taken (`TakesInput`)
abbrev pub Takes : Result (Vec ℕ Global) PipeFault → List ℕ → List ℕ → Type 0
Takes (Ok input) old new = (new ≡ old ++ input.items) × (length input.items ≤ INPUT_MAX)
Takes (Err fault.TooLong) old new =
    (input : List ℕ) × (new ≡ old ++ input) × (length input ≡ INPUT_MAX + 1)
Takes (Err fault.Device) old new =
    (input : List ℕ) × (new ≡ old ++ input) × (length input ≤ INPUT_MAX + 1)
Takes (Err fault.Memory) old new =
    (input : List ℕ) × (new ≡ old ++ input) × (length input ≤ INPUT_MAX + 1)
Takes (Err (fault.Keys line kind)) old new = ⊥

-- the table has the keys of a table that was read, and beside them this list of what was taken back
abbrev pub IsTableBeside : Revoked → Result Table KeyFault → Table → Type 0
IsTableBeside list read table =
    (keys : Table) × (read ≡ Ok keys) × (table ≡ record keys { revoked = list })

-- the fault tells that of the key lines, unless memory ran out
abbrev pub Tells : Result Table KeyFault → PipeFault → Type 0
Tells table (fault.Keys line kind) = table ≡ Err (key.Line line kind)
Tells table fault.Memory = Unit {0}
Tells table fault.Device = ⊥
Tells table fault.TooLong = ⊥

-- the output grew by the text, or by a beginning of it where a device failed or memory ran out
abbrev pub Writes : {T : Type 0} → Result T PipeFault → List ℕ → List ℕ → List ℕ → Type 0
Writes (Ok x) text old new = new ≡ old ++ text
Writes (Err fault.Device) text old new = Begins text old new
Writes (Err fault.Memory) text old new = Begins text old new
Writes (Err fault.TooLong) text old new = ⊥
Writes (Err (fault.Keys line kind)) text old new = ⊥

-- a run that only writes ends well, by a device's fault, or for want of memory
abbrev pub EndsWriting : {T : Type 0} → Result T PipeFault → Type 0
EndsWriting (Ok x) = Unit {0}
EndsWriting (Err fault.Device) = Unit {0}
EndsWriting (Err fault.Memory) = Unit {0}
EndsWriting (Err fault.TooLong) = ⊥
EndsWriting (Err (fault.Keys line kind)) = ⊥
