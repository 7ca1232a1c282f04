-- How the program ends.
use Rattle.std.specs.Prelude.{◌≡◌, ◌⊎◌, ℕ, Result, Ok, Err}
use Rattle.mac_commands.specs.declared.fault.PipeFault.{PipeFault}
use Rattle.mac_commands.specs.declared.fault.PipeFault.TheVariants as fault
use Rattle.mac_board.specs.declared.listing.ListRefusal.{ListRefusal}
use Rattle.mac_board.specs.declared.listing.ListRefusal.TheVariants as list
use Rattle.mac_commands.specs.declared.status.Status.{Status}
use Rattle.mac_commands.specs.declared.status.Status.TheVariants as status

-- the number that the system is told
abbrev pub status_code : Status → ℕ
status_code status.Done = 0
status_code status.Refused = 1
status_code status.BadKeys = 1
status_code status.BadLine = 2
status_code status.DeviceFault = 3
status_code status.NoMemory = 4

-- a fault of the key lines; a device's, or an input past its bound; want of memory
abbrev pub pipe_status : PipeFault → Status
pipe_status (fault.Keys line kind) = status.BadKeys
pipe_status fault.Device = status.DeviceFault
pipe_status fault.TooLong = status.DeviceFault
pipe_status fault.Memory = status.NoMemory

-- a fault of a list's lines; else what the system gives of it
abbrev pub list_status : ListRefusal → Status
list_status (list.Faulty line kind) = status.BadKeys
list_status _ = status.DeviceFault

-- the status of a run: that all was done, or that of its fault
abbrev pub run_status : Result (Unit {0}) PipeFault → Status
run_status (Ok x) = status.Done
run_status (Err fault) = pipe_status fault

-- a line that asks for no work ends with its own status; where help can't be printed, with that of
-- a device
abbrev pub IsShown : Status → Status → Type 0
IsShown shown ended = (ended ≡ shown) ⊎ ((shown ≡ status.Done) × (ended ≡ status.DeviceFault))
