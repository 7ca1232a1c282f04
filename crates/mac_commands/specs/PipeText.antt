-- What the pipe writes for its whole input, where each arrival under a table has the answer that is
-- handed in.
use Rattle.std.specs.Prelude.{ℕ, List, [], ◌++◌, ◌∷◌, map, Result, Ok, Err}
use Rattle.mac_keys.specs.KeyTable.{Table, table_of}
use Rattle.mac_keys.specs.declared.fault.KeyFault.{KeyFault}
use Rattle.mac_wire.specs.declared.arrival.Arrival.{Arrival}
use Rattle.mac_wire.specs.declared.arrival.Arrival.TheVariants as arrival
use Rattle.mac_wire.specs.declared.reply.Reply.{Reply}
use Rattle.mac_commands.specs.Arrived.{arrival_of}
use Rattle.mac_commands.specs.Lines.{key_text, request_lines}
use Rattle.mac_commands.specs.ReplyLine.{reply_line}

-- a line for the reply to each arrival, in order; an oversize arrival is the last
abbrev pub answers : (Arrival → Reply) → List Arrival → List ℕ
answers reply [] = []
answers reply (arrival.Payload payload ∷ rest) =
    reply_line (reply (arrival.Payload payload)) ++ answers reply rest
answers reply (arrival.Oversize ∷ rest) = reply_line (reply arrival.Oversize)

-- the answers under the table of the key lines; none where the key lines have a fault
abbrev pub answers_under :
    (Table → Arrival → Reply) → List (List ℕ) → Result Table KeyFault → List ℕ
answers_under answer requests (Ok table) = answers (answer table) (map arrival_of requests)
answers_under answer requests (Err fault) = []

unfoldable pub pipe_text : (Table → Arrival → Reply) → List ℕ → List ℕ
pipe_text answer input = answers_under answer (request_lines input) (table_of (key_text input))
