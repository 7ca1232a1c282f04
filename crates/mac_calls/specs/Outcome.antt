-- What comes of a call (this project's own).
use Rattle.std.specs.Prelude.{ℕ, List, Option, Some, None, Ok, Err}
use Rattle.std.specs.FinMap as map
use Rattle.mac_keys.specs.KeyTable.{Table}
use Rattle.mac_keys.specs.declared.keys.Keys.{Keys}
use Rattle.mac_wire.specs.declared.reply.Refusal.{Refusal}
use Rattle.mac_wire.specs.declared.reply.Refusal.TheVariants as refusal
use Rattle.mac_calls.specs.Asking.{Verifier}
use Rattle.mac_calls.specs.declared.answering.CallOutcome.{CallOutcome}
use Rattle.mac_calls.specs.declared.answering.CallOutcome.TheVariants.{NoKey, Minted, Reply, Refused}
use Rattle.mac_calls.specs.declared.call.Call.{Call}
use Rattle.mac_calls.specs.declared.fault.CallRefusal.TheVariants.{Body, Token}
use Rattle.mac_calls.specs.declared.call.Call.TheVariants.{Mint, Attenuate, Inspect, Check, Verify}
use Rattle.mac_calls.specs.Json.{inspected, minted_json, refusal_json, token_json}
use Rattle.mac_calls.specs.Judged.{judged}
use Rattle.mac_calls.specs.Made.{attenuated, minted}
use Rattle.mac_calls.specs.Object.{object_in}
use Rattle.mac_calls.specs.Steps.{Step, ◌>>=◌}

-- the reply to a mint, by its body, what was drawn for it and the moment at which its caveats are
-- looked at, and the token's identifier
abbrev pub mint_answer : Keys → List ℕ → ℕ → List ℕ → Step (List ℕ × List ℕ)
mint_answer keys drawn moment body = do
  d ← object_in Mint body
  made ← minted keys drawn moment d
  Ok (minted_json d made, made.0)

-- the reply to an attenuate, whose caveats are looked at at a moment
abbrev pub attenuate_answer : ℕ → List ℕ → Step (List ℕ)
attenuate_answer moment body = do
  d ← object_in Attenuate body
  made ← attenuated moment d
  Ok (token_json made.0 made.1)

-- the reply to each other call, by its body
abbrev pub inspect_answer : List ℕ → Step (List ℕ)
inspect_answer body = object_in Inspect body >>= inspected

abbrev pub check_answer : List ℕ → Step (List ℕ)
check_answer body = object_in Check body >>= judged None

abbrev pub verify_answer : Verifier → List ℕ → Step (List ℕ)
verify_answer v body = object_in Verify body >>= judged (Some v)

-- the reply or the refusal
abbrev pub told_outcome : Step (List ℕ) → CallOutcome
told_outcome (Ok json) = Reply json
told_outcome (Err why) = Refused (refusal_json why) why

-- the same of a mint
abbrev pub minted_outcome : Step (List ℕ × List ℕ) → CallOutcome
minted_outcome (Ok told) = Minted told.0 told.1
minted_outcome (Err why) = Refused (refusal_json why) why

-- what comes of a mint, if the name has keys
abbrev pub mint_outcome : Option Keys → List ℕ → ℕ → List ℕ → CallOutcome
mint_outcome None drawn moment body = NoKey
mint_outcome (Some keys) drawn moment body =
    minted_outcome (mint_answer keys drawn moment body)

-- the same of a verify
abbrev pub verify_outcome : Table → List ℕ → Option Keys → List ℕ → CallOutcome
verify_outcome table name None body = NoKey
verify_outcome table name (Some keys) body = told_outcome
    (verify_answer (record { keys = keys; name = name; revoked = table.revoked }) body)

-- what comes of a call with a body, under a table at a moment; a mint and a verify alone are about a
-- name, and a mint alone takes what was drawn
abbrev pub outcome_of : Table → ℕ → List ℕ → Call → List ℕ → List ℕ → CallOutcome
outcome_of table moment name Mint drawn body =
    mint_outcome (map.get table.keys name) drawn moment body
outcome_of table moment name Attenuate drawn body = told_outcome (attenuate_answer moment body)
outcome_of table moment name Inspect drawn body = told_outcome (inspect_answer body)
outcome_of table moment name Check drawn body = told_outcome (check_answer body)
outcome_of table moment name Verify drawn body =
    verify_outcome table name (map.get table.keys name) body

-- the identifier of the token that an outcome brings, where that was minted
abbrev pub minted_identifier : CallOutcome → Option (List ℕ)
minted_identifier (Minted json identifier) = Some identifier
minted_identifier _ = None

-- the refusal of the wire that an outcome is, if it is one: that a body is none of its call isn't
abbrev pub wire_refusal : CallOutcome → Option Refusal
wire_refusal NoKey = Some refusal.UnknownKey
wire_refusal (Minted json identifier) = None
wire_refusal (Reply json) = None
wire_refusal (Refused json (Body why)) = None
wire_refusal (Refused json (Token why)) = Some why
