-- What a run of the pipe does.
use Rattle.std.specs.Prelude.{◌≡◌, ℕ, ◌+◌, ◌≤◌, Bool, IsTrue, IsOk, List, ◌++◌, length}
use Rattle.std.specs.Prelude.{Option, Result, Ok, Err}
use Rattle.mac_decide.specs.Answer.{full_answer}
use Rattle.mac_keys.specs.KeyTable.{Table, table_of}
use Rattle.mac_keys.specs.Revoked.{Revoked}
use Rattle.mac_keys.specs.declared.fault.KeyFault.TheVariants as key
use Rattle.mac_wire.specs.declared.arrival.Arrival.{Arrival}
use Rattle.mac_wire.specs.declared.reply.Reply.{Reply}
use Rattle.mac_commands.specs.declared.fault.PipeFault.{PipeFault}
use Rattle.mac_commands.specs.declared.fault.PipeFault.TheVariants as fault
use Rattle.mac_commands.specs.declared.input.TheConstants.{INPUT_MAX}
use Rattle.mac_commands.specs.Lines.{key_text}
use Rattle.mac_commands.specs.Output.{Begins}
use Rattle.mac_commands.specs.PipeText.{pipe_text}

-- ---- what holds of the source

-- what a run with this result took: the whole input, where it is within its bound; a byte past the
-- bound where it is too long; and never more than that
abbrev pub TakesInput : Result (Unit {0}) PipeFault → Bool → List ℕ → Type 0
TakesInput (Ok x) ended input = IsTrue ended × (length input ≤ INPUT_MAX)
TakesInput (Err (fault.Keys line kind)) ended input = IsTrue ended × (length input ≤ INPUT_MAX)
TakesInput (Err fault.TooLong) ended input = length input ≡ INPUT_MAX + 1
TakesInput (Err fault.Device) ended input = length input ≤ INPUT_MAX + 1
TakesInput (Err fault.Memory) ended input = length input ≤ INPUT_MAX + 1

-- ---- what holds of the output

-- the reply to an arrival at a moment under the keys of a table, beside a list of what was taken
-- back
abbrev pub answer_beside : Revoked → Option ℕ → Table → Arrival → Reply
answer_beside list moment keys a = full_answer moment (record keys { revoked = list }) a

-- what a run with this result made of the input that it took, under the answers handed in: the
-- output was old and is new
abbrev pub GivesOutput : (Table → Arrival → Reply) → Result (Unit {0}) PipeFault → List ℕ → List ℕ
    → List ℕ → Type 0
GivesOutput answer (Ok x) input old new =
    IsOk (table_of (key_text input)) × (new ≡ old ++ pipe_text answer input)
GivesOutput answer (Err (fault.Keys line kind)) input old new =
    (table_of (key_text input) ≡ Err (key.Line line kind)) × (new ≡ old)
GivesOutput answer (Err fault.TooLong) input old new = new ≡ old
GivesOutput answer (Err fault.Device) input old new = Begins (pipe_text answer input) old new
GivesOutput answer (Err fault.Memory) input old new = Begins (pipe_text answer input) old new
