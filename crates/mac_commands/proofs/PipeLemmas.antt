-- A run of the pipe, put together from what its parts did.
use Rattle.std.proofs.Common.{◌≡◌, ◌⊎◌, inl, inr, ℕ, ◌+◌, ◌≤◌, List, [], ◌++◌, length, map, refl, sym, ap, ◌∙◌, arith}
use Rattle.std.proofs.lemmas.List.{append_cancel_left, append-nil}
use Rattle.std.specs.Prelude.{Bool, IsTrue, Option, Result, Ok, Err, IsErrAnd}
use Rattle.mac_decide.specs.Answer.{full_answer}
use Rattle.mac_keys.specs.Keys.{NamedKeys}
use Rattle.mac_keys.specs.KeyTable.{Table, bare_or_fault, table_of}
use Rattle.mac_keys.specs.Revoked.{nothing}
use Rattle.mac_keys.specs.Table as named
use Rattle.mac_keys.specs.declared.fault.KeyFault.{KeyFault}
use Rattle.mac_keys.specs.declared.fault.LineFault.{LineFault}
use Rattle.mac_keys.specs.declared.fault.KeyFault.TheVariants as key
use Rattle.mac_wire.specs.declared.arrival.Arrival.{Arrival}
use Rattle.mac_wire.specs.declared.reply.Reply.{Reply}
use Rattle.mac_commands.specs.declared.fault.PipeFault.{PipeFault}
use Rattle.mac_commands.specs.declared.fault.PipeFault.TheVariants as fault
use Rattle.mac_commands.specs.declared.input.TheConstants.{INPUT_MAX}
use Rattle.mac_commands.specs.Arrived.{arrival_of}
use Rattle.mac_commands.specs.Lines.{lines, key_text, request_lines}
use Rattle.mac_commands.specs.Inner.{EndsWriting, Takes, Tells, Writes}
use Rattle.mac_commands.specs.Pipe.{GivesOutput, TakesInput, answer_beside}
use Rattle.mac_commands.specs.PipeText.{answers, answers_under, pipe_text}
use Rattle.mac_commands.proofs.OutputLemmas.{remains-begins, remains-none}

-- what the pipe writes where the key lines have no fault
pub pipe_text-ok : (answer : Table → Arrival → Reply) (input : List ℕ) (table : Table) → table_of (key_text input) ≡ Ok table →
    pipe_text answer input ≡ answers (answer table) (map arrival_of (request_lines input))
unfolding pipe_text
pipe_text-ok answer input table e = ap (answers_under answer (request_lines input)) e

-- the answers that were written are the pipe's text
pub output-answers : (answer : Table → Arrival → Reply) (r : Result (Unit {0}) PipeFault) (input : List ℕ) (table : Table)
    (requests : List (List ℕ)) (old new : List ℕ) → table_of (key_text input) ≡ Ok table →
    requests ≡ request_lines input → Writes r (answers (answer table) (map arrival_of requests)) old new →
    GivesOutput answer r input old new
output-answers answer (Ok x) input table requests old new ok is_requests w =
    let text = pipe_text-ok answer input table ok in
    (rw ok refl, w ∙ ap (λ (l : List ℕ). old ++ l) (ap (λ (l : List (List ℕ)). answers (answer table) (map arrival_of l)) is_requests ∙ sym text))
output-answers answer (Err fault.Device) input table requests old new ok is_requests w =
    rw (pipe_text-ok answer input table ok, ← is_requests) w
output-answers answer (Err fault.Memory) input table requests old new ok is_requests w =
    rw (pipe_text-ok answer input table ok, ← is_requests) w
output-answers answer (Err fault.TooLong) input table requests old new ok is_requests w = absurd w
output-answers answer (Err (fault.Keys line kind)) input table requests old new ok is_requests w = absurd w

-- a run that wrote its answers had taken the whole input
pub source-answers : (r : Result (Unit {0}) PipeFault) (ended : Bool) (input : List ℕ) →
    IsTrue ended → length input ≤ INPUT_MAX → EndsWriting r → TakesInput r ended input
source-answers (Ok x) ended input is_ended bound w = (is_ended, bound)
source-answers (Err fault.Device) ended input is_ended bound w = omega arith
source-answers (Err fault.Memory) ended input is_ended bound w = omega arith
source-answers (Err fault.TooLong) ended input is_ended bound w = absurd w
source-answers (Err (fault.Keys line kind)) ended input is_ended bound w = absurd w

-- a run whose input wasn't read to its end has taken what was read of it
pub source-unread : (f : PipeFault) (r : Result (Unit {0}) PipeFault) (ended : Bool) (old new : List ℕ) →
    IsErrAnd r (λ e. e ≡ f) → Takes (Err f) old new → (input : List ℕ) × (new ≡ old ++ input) × TakesInput r ended input
source-unread f (Ok x) ended old new e takes = absurd e
source-unread fault.Device (Err g) ended old new e takes = (takes.0, takes.1, rw e takes.2)
source-unread fault.Memory (Err g) ended old new e takes = (takes.0, takes.1, rw e takes.2)
source-unread fault.TooLong (Err g) ended old new e takes = (takes.0, takes.1, rw e takes.2)
source-unread (fault.Keys line kind) (Err g) ended old new e takes = absurd takes

-- and it has written nothing
pub output-unread : (answer : Table → Arrival → Reply) (f : PipeFault) (r : Result (Unit {0}) PipeFault) (old new input out : List ℕ) →
    IsErrAnd r (λ e. e ≡ f) → Takes (Err f) old new → GivesOutput answer r input out out
output-unread answer f (Ok x) old new input out e takes = absurd e
output-unread answer fault.Device (Err g) old new input out e takes =
    rw e (remains-begins _ out out _ (remains-none (pipe_text answer input) out))
output-unread answer fault.Memory (Err g) old new input out e takes =
    rw e (remains-begins _ out out _ (remains-none (pipe_text answer input) out))
output-unread answer fault.TooLong (Err g) old new input out e takes = rw e refl
output-unread answer (fault.Keys line kind) (Err g) old new input out e takes = absurd takes

-- a run whose key lines couldn't be read has taken the whole input
pub source-told : (f : PipeFault) (r : Result (Unit {0}) PipeFault) (table : Result Table KeyFault) (ended : Bool) (input : List ℕ) →
    IsErrAnd r (λ e. e ≡ f) → Tells table f → IsTrue ended → length input ≤ INPUT_MAX → TakesInput r ended input
source-told f (Ok x) table ended input e tells is_ended bound = absurd e
source-told fault.Memory (Err g) table ended input e tells is_ended bound =
    let within : length input ≤ INPUT_MAX + 1 = omega arith in
    rw e within
source-told (fault.Keys line kind) (Err g) table ended input e tells is_ended bound = rw e (is_ended, bound)
source-told fault.Device (Err g) table ended input e tells is_ended bound = absurd tells
source-told fault.TooLong (Err g) table ended input e tells is_ended bound = absurd tells

-- and it has written nothing
pub output-told : (answer : Table → Arrival → Reply) (f : PipeFault) (r : Result (Unit {0}) PipeFault) (input out : List ℕ) →
    IsErrAnd r (λ e. e ≡ f) → Tells (table_of (key_text input)) f → GivesOutput answer r input out out
output-told answer f (Ok x) input out e tells = absurd e
output-told answer fault.Memory (Err g) input out e tells =
    rw e (remains-begins _ out out _ (remains-none (pipe_text answer input) out))
output-told answer (fault.Keys line kind) (Err g) input out e tells = rw e (tells, refl)
output-told answer fault.Device (Err g) input out e tells = absurd tells
output-told answer fault.TooLong (Err g) input out e tells = absurd tells

-- the empty text has no key line, and so no fault
pub table_of-none : (line : ℕ) (kind : LineFault) → table_of (key_text []) ≡ Err (key.Line line kind) → ⊥
unfolding lines
table_of-none line kind e = cc

-- a run whose input wasn't read to its end tells no fault of the key lines
pub keys-unread : (f : PipeFault) (r : Result (Unit {0}) PipeFault) (old new input : List ℕ) (line : ℕ) (kind : LineFault) →
    IsErrAnd r (λ e. e ≡ f) → Takes (Err f) old new → (f ≡ fault.Device → new ≡ old) → new ≡ old ++ input → length input ≤ INPUT_MAX →
    table_of (key_text input) ≡ Err (key.Line line kind) →
    (r ≡ Err (fault.Keys line kind)) ⊎ (r ≡ Err fault.Memory)
keys-unread f (Ok x) old new input line kind e takes failed more bound table = absurd e
keys-unread fault.Memory (Err g) old new input line kind e takes failed more bound table = inr (ap Err e)
keys-unread fault.Device (Err g) old new input line kind e takes failed more bound table =
    let none : [] ≡ input = append_cancel_left old [] input (append-nil old ∙ sym (failed refl) ∙ more) in
    absurd (table_of-none line kind (rw none table))
keys-unread fault.TooLong (Err g) old new input line kind e takes failed more bound table =
    let same : takes.0 ≡ input = append_cancel_left old takes.0 input (sym takes.1 ∙ more) in
    let long = takes.2 in
    absurd (let size = ap length same in omega arith)
keys-unread (fault.Keys l k) (Err g) old new input line kind e takes failed more bound table = absurd takes

-- a run whose key lines couldn't be read tells their fault
pub keys-told : (f : PipeFault) (r : Result (Unit {0}) PipeFault) (table : Result Table KeyFault) (line : ℕ) (kind : LineFault) →
    IsErrAnd r (λ e. e ≡ f) → Tells table f → table ≡ Err (key.Line line kind) →
    (r ≡ Err (fault.Keys line kind)) ⊎ (r ≡ Err fault.Memory)
keys-told f (Ok x) table line kind e tells is_fault = absurd e
keys-told fault.Memory (Err g) table line kind e tells is_fault = inr (ap Err e)
keys-told (fault.Keys l k) (Err g) table line kind e tells is_fault =
    let same = sym tells ∙ is_fault in
    let at_line : l ≡ line = cc in
    let of_kind : k ≡ kind = cc in
    inl (ap Err e ∙ cc)
keys-told fault.Device (Err g) table line kind e tells is_fault = absurd tells
keys-told fault.TooLong (Err g) table line kind e tells is_fault = absurd tells

-- a list that takes nothing back is the one that key lines give themselves
same_answers : (moment : Option ℕ) (requests : List (List ℕ)) (read : Result NamedKeys KeyFault)
    → answers_under (answer_beside nothing moment) requests (bare_or_fault read) ≡ answers_under (full_answer moment) requests (bare_or_fault read)
same_answers moment requests (Ok keys) = refl
same_answers moment requests (Err fault) = refl

pub without_list : (moment : Option ℕ) (input : List ℕ) → pipe_text (answer_beside nothing moment) input ≡ pipe_text (full_answer moment) input
unfolding pipe_text
without_list moment input = same_answers moment (request_lines input) (named.table_of (key_text input))
