-- What doing a person's task comes to, from what is said of its words.
use Rattle.std.proofs.Common.{inl, List, Option, Some, None, Result, Ok, Err, ℕ, IfOk, option_map, string_bytes}
use Rattle.std.specs.Prelude.{IfSome}
use Rattle.std.specs.declared.alloc.Global.{Global}
use Rattle.std.specs.declared.string.String.{String}
use Rattle.mac_keys.specs.KeyTable.{Table}
use Rattle.mac_wire.specs.Request.{Asked}
use Rattle.mac_words.specs.Said.{Says}
use Rattle.mac_words.specs.declared.saying.Said.{Said}
use Rattle.mac_commands.specs.Doing.{DoesTask, EndsTask, IsMomentGiven}
use Rattle.mac_commands.specs.People.{GivesMoment, IsToldSo, SaysWords}
use Rattle.mac_commands.specs.declared.people.asking.Task.{Task}
use Rattle.mac_commands.specs.declared.people.fault.PersonFault.{PersonFault}
use Rattle.mac_commands.specs.declared.status.Status.{Status}

-- what is said of a request, as it is said of the words
pub said_of_words : (P : Said → Type 0) (table : Table) (token : List ℕ) (request : Asked) (result : Result Said PersonFault)
    → SaysWords table token request result → ((said : Said) → Says table token request (Ok said) → P said) → IfOk result P
said_of_words P table token request (Ok said) says then = then said says
said_of_words P table token request (Err why) says then = tt

-- the moment that a word names, if there is a word
pub moment_given : (at : Option (String Global)) (moment : ℕ)
    → IfSome at (λ word. GivesMoment (string_bytes word) (Ok moment)) → IsMomentGiven (option_map string_bytes at) moment
moment_given (Some word) moment gives = gives
moment_given None moment gives = tt

-- a run that does a task ends as what it says
pub ends_told : (task : Task) (said : Said) (ended : Status) → DoesTask task said → IsToldSo said.is_refusal ended → EndsTask task ended
ends_told task said ended does told = inl (said, does, told)
