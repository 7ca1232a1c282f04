-- Signals.
use Rattle.std.specs.Prelude.{◌≡◌, ◌≢◌, ℕ, ℤ, pos, ◌<ℤ◌, ◌≤ℤ◌, List, Result, Ok, Err, Some}
use Rattle.std.specs.Int.{w32, from_le_bytes}
use Rattle.std.specs.IoError.{error_kind, raw_os_error}
use Rattle.std.specs.declared.io.Error.{Error}
use Rattle.std.specs.declared.io.ErrorKind.TheVariants.{UnexpectedEof}
use Rattle.mac_system.specs.declared.signals.Signal.{Signal}
use Rattle.mac_system.specs.declared.signals.Signal.TheVariants.{HangUp, Interrupt, Terminate}
use Rattle.mac_system.specs.declared.signals.TheConstants.{RECORD_SIZE}

-- the number of a signal on Linux (`signal(7)`)
abbrev pub signal_number : Signal → ℕ
signal_number HangUp = 1
signal_number Interrupt = 2
signal_number Terminate = 15

-- A read of a record of `signalfd(2)` was answered so, with this `errno(3)`, and left the record so.
-- A whole record tells the number that its first word has, the lowest byte first; a call that failed
-- tells its own fault, and a part of a record that it ends too early.
abbrev pub IsNumberOf : (answer code : ℤ) → List ℕ → Result ℕ Error → Type 0
IsNumberOf answer code bytes (Ok number) =
    (answer ≡ pos RECORD_SIZE) × (number ≡ from_le_bytes w32 bytes)
IsNumberOf answer code bytes (Err fault) =
    (answer ≢ pos RECORD_SIZE)
    × (answer <ℤ pos 0 → raw_os_error fault ≡ Some code)
    × (pos 0 ≤ℤ answer → error_kind fault ≡ UnexpectedEof)
