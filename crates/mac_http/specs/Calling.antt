-- Calls that bring JSON, and the responses to them (this project's own).
use Rattle.std.specs.Prelude.{ℕ, ◌≡◌, ◌⊎◌, length, Bool, true, false, ◌&&◌, if◌then◌else◌, List, [], ◌∷◌, codes, bytes_eq, Option, Some, None, option_map, unwrap_or}
use Rattle.http.specs.Request.{head_of, body_of}
use Rattle.http.specs.declared.request.Request.{Request}
use Rattle.http1.specs.Fields.{Header}
use Rattle.http_server.specs.declared.response.Response.{Response}
use Rattle.http_server.specs.Response.{IsResponse}
use Rattle.mac_calls.specs.Outcome.{outcome_of}
use Rattle.mac_calls.specs.declared.answering.CallOutcome.{CallOutcome}
use Rattle.mac_calls.specs.declared.answering.CallOutcome.TheVariants.{NoKey, Minted, Reply, Refused}
use Rattle.mac_calls.specs.declared.call.Call.{Call}
use Rattle.mac_calls.specs.declared.call.Call.TheVariants.{Mint, Attenuate, Inspect, Check}
use Rattle.mac_decide.specs.Terms.{is_allowed}
use Rattle.mac_keys.specs.KeyTable.{Table}
use Rattle.mac_http.specs.declared.rules.Calls.{Calls}
use Rattle.mac_http.specs.declared.rules.Rules.{Rules}
use Rattle.mac_http.specs.Browsing.{refusal_of}
use Rattle.mac_http.specs.Saying.{IsOverloaded}
use Rattle.mac_http.specs.Target.{behind_front}

-- no call is allowed
abbrev pub no_calls : Calls
no_calls = record { mint = false; attenuate = false; inspect = false; check = false }

-- the calls that are answered: a mint only where the address allows it too
abbrev pub allowed_calls : Rules → Calls
allowed_calls rules = record rules.calls { mint = rules.calls.mint && rules.rights.now.may_mint }

-- a mint may use the name's keys; other calls use none
abbrev pub may_use : Option (List (List ℕ)) → Call → List ℕ → Bool
may_use names Mint name = is_allowed names name
may_use names call name = true

-- the moment at which new caveats are looked at: where no clock tells one, no time limit since 1970
-- has passed
abbrev pub told_moment : Option ℕ → ℕ
told_moment moment = unwrap_or moment 0

-- what comes of a call with these random bytes: a mint under a name that may not be used is one of a
-- name without keys
abbrev pub allowed_outcome : Rules → Table → Option ℕ → Call × List ℕ → List ℕ → List ℕ → CallOutcome
allowed_outcome rules table moment asked drawn body =
    if may_use rules.rights.now.names asked.0 asked.1
    then outcome_of table (told_moment moment) asked.1 asked.0 drawn body else NoKey

-- the name of a key in a path that asks for a mint
abbrev pub mint_in : List ℕ → Option (Call × List ℕ)
mint_in path = option_map (λ name. (Mint, name)) (behind_front (codes "/mint/") path)

-- the call that a path asks for, where it is allowed, and the name that it is about, if it is
abbrev pub call_in : Calls → List ℕ → Option (Call × List ℕ)
call_in calls path =
    if bytes_eq path (codes "/attenuate") && calls.attenuate then Some (Attenuate, [])
    else (if bytes_eq path (codes "/inspect") && calls.inspect then Some (Inspect, [])
    else (if bytes_eq path (codes "/check") && calls.check then Some (Check, [])
    else (if calls.mint then mint_in path else None)))

-- the field of JSON
abbrev pub is_json : List Header
is_json = (codes "content-type", codes "application/json") ∷ []

-- the field that tells the method that is taken (RFC 9110, section 10.2.1)
abbrev pub takes_post : List Header
takes_post = (codes "allow", codes "POST") ∷ []

-- the response that tells what came of a call
abbrev pub TellsOutcome : CallOutcome → Response → Type 0
TellsOutcome NoKey = IsResponse 404 [] []
TellsOutcome (Minted json identifier) = IsResponse 200 is_json json
TellsOutcome (Reply json) = IsResponse 200 is_json json
TellsOutcome (Refused json why) = IsResponse 400 is_json json

-- the same, if the method is POST
abbrev pub TellsCall : Bool → CallOutcome → Response → Type 0
TellsCall true o = TellsOutcome o
TellsCall false o = IsResponse 405 takes_post []

-- the same, unless the call is refused before by a status
abbrev pub TellsUnlessRefused : Option ℕ → Bool → CallOutcome → Response → Type 0
TellsUnlessRefused (Some status) is_post o = IsResponse status [] []
TellsUnlessRefused None is_post o = TellsCall is_post o

-- the response to a request for this call with these random bytes, want of memory aside
abbrev pub RespondsWith : List ℕ → Table → Rules → Option ℕ → Call × List ℕ → Request (List ℕ)
    → Response → Type 0
RespondsWith drawn table rules moment asked request response =
    TellsUnlessRefused (refusal_of rules.way (head_of request))
    (bytes_eq (head_of request).method (codes "POST"))
    (allowed_outcome rules table moment asked drawn (body_of request)) response
    ⊎ IsOverloaded response

-- the same with some 16 random bytes
abbrev pub RespondsToCall : Table → Rules → Option ℕ → Call × List ℕ → Request (List ℕ) → Response
    → Type 0
RespondsToCall table rules moment asked request response = ((drawn : List ℕ) × (length drawn ≡ 16)
    × TellsUnlessRefused (refusal_of rules.way (head_of request))
    (bytes_eq (head_of request).method (codes "POST"))
    (allowed_outcome rules table moment asked drawn (body_of request)) response)
    ⊎ IsOverloaded response

-- what came of a call, if the method is POST
abbrev pub outcome_by_post : Bool → CallOutcome → Option CallOutcome
outcome_by_post true o = Some o
outcome_by_post false o = None

-- the same, unless the call is refused before by a status
abbrev pub outcome_unless_refused : Option ℕ → Bool → CallOutcome → Option CallOutcome
outcome_unless_refused (Some status) is_post o = None
outcome_unless_refused None is_post o = outcome_by_post is_post o

-- the response tells what came of the call, and whoever notes it is told that; or the response tells
-- that there was no memory, and nothing is noted
abbrev pub NotesOutcome : List ℕ → Table → Rules → Option ℕ → Call × List ℕ → Request (List ℕ)
    → Response → Option CallOutcome → Type 0
NotesOutcome drawn table rules moment asked request response noted =
    let refused = refusal_of rules.way (head_of request) in
    let is_post = bytes_eq (head_of request).method (codes "POST") in
    let outcome = allowed_outcome rules table moment asked drawn (body_of request) in
    (TellsUnlessRefused refused is_post outcome response
    × (noted ≡ outcome_unless_refused refused is_post outcome))
    ⊎ (IsOverloaded response × (noted ≡ None))

-- the same with some random bytes
abbrev pub NotesCall : Table → Rules → Option ℕ → Call × List ℕ → Request (List ℕ) → Response
    → Option CallOutcome → Type 0
NotesCall table rules moment asked request response noted =
    (drawn : List ℕ) × NotesOutcome drawn table rules moment asked request response noted
