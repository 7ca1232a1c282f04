-- What a run leaves in its output, and of its devices' counts of faults.
use Rattle.std.specs.Prelude.{◌≡◌, ℕ, ◌+◌, List, ◌++◌, take, Result, Ok, Err}
use Rattle.mac_commands.specs.declared.fault.PipeFault.{PipeFault}
use Rattle.mac_commands.specs.declared.fault.PipeFault.TheVariants as fault

-- the output grew by a beginning of the text
abbrev pub Begins : List ℕ → List ℕ → List ℕ → Type 0
Begins text old new = (n : ℕ) × (new ≡ old ++ take n text)

-- one fault was counted where the run answers a device's, and else none
abbrev pub CountsDevice : {T : Type 0} → Result T PipeFault → ℕ → ℕ → Type 0
CountsDevice (Err fault.Device) old new = new ≡ old + 1
CountsDevice (Err fault.Memory) old new = new ≡ old
CountsDevice (Err fault.TooLong) old new = new ≡ old
CountsDevice (Err (fault.Keys line kind)) old new = new ≡ old
CountsDevice (Ok x) old new = new ≡ old
