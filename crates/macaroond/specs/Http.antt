-- The sockets over HTTP, as the options of `listen` name them.
use Rattle.std.specs.Prelude.{◌≡◌, ◌*◌, ◌^◌, ◌||◌, ℕ, Bool, List, [], ◌++◌, Option, Some, None, Result, Ok, Err}
use Rattle.std.specs.Prelude.{codes, if◌then◌else◌, string_bytes, true, false}
use Rattle.std.specs.List.{list_all, list_any, slice_split}
use Rattle.std.specs.Str.{bytes_eq}
use Rattle.std.specs.Duration.{as_nanos}
use Rattle.std.specs.declared.alloc.Global.{Global}
use Rattle.std.specs.declared.string.String.{String}
use Rattle.std.specs.declared.vec.Vec.{Vec}
use Rattle.mac_gate.specs.Address.{AreRead}
use Rattle.mac_gate.specs.declared.address.Address.{Address}
use Rattle.mac_gate.specs.declared.address.Reach.{Reach}
use Rattle.mac_gate.specs.declared.address.Reach.TheVariants.{Loopback, Anywhere}
use Rattle.mac_gate.specs.declared.terms.HttpTerms.{HttpTerms}
use Rattle.mac_http.specs.Calling.{no_calls}
use Rattle.mac_http.specs.declared.rules.Pages.{Pages}
use Rattle.mac_http.specs.declared.rules.Pages.TheVariants as pages
use Rattle.mac_http.specs.declared.rules.Calls.{Calls}
use Rattle.mac_http.specs.declared.rules.Granted.{Granted}
use Rattle.mac_http.specs.declared.rules.Granted.TheVariants as granted
use Rattle.mac_http.specs.declared.rules.Sources.{Sources}
use Rattle.mac_commands.specs.CommandLine.{permissions}
use Rattle.macaroond.specs.Rights.{AreNone, IsRights, is_comma}
use Rattle.mac_commands.specs.declared.choices.HttpOptions.{HttpOptions}
use Rattle.macaroond.specs.declared.http.HttpFault.{HttpFault}
use Rattle.macaroond.specs.declared.http.HttpFault.TheVariants as fault
use Rattle.macaroond.specs.declared.http.HttpPlan.{HttpPlan}

-- the addresses of a list, or none where it is left out
abbrev pub AreNamed : Reach → Option (String Global) → List Address → Type 0
AreNamed reach None addresses = addresses ≡ []
AreNamed reach (Some list) addresses = AreRead reach (string_bytes list) addresses

-- the same, or a word of the list is no address that may be served
abbrev pub GivesAddresses : Reach → Option (String Global) → Result (Vec Address Global) HttpFault
    → Type 0
GivesAddresses reach list (Ok addresses) = AreNamed reach list addresses.items
GivesAddresses reach list (Err (fault.Address word why)) = Unit {0}
GivesAddresses reach list (Err (fault.CallsAnywhere word)) = Unit {0}
GivesAddresses reach list (Err fault.NoMemory) = Unit {0}
GivesAddresses reach list (Err _) = ⊥

-- the status that grants: 200 or 204, and 200 where none is named
abbrev pub granted_of : Option (String Global) → Option Granted
granted_of None = Some granted.Ok
granted_of (Some status) = if bytes_eq (string_bytes status) (codes "200") then Some granted.Ok
    else (if bytes_eq (string_bytes status) (codes "204") then Some granted.NoContent else None)

-- the pages that gateways are told: none where operators have addresses of their own
abbrev pub pages_beside : Option (String Global) → Pages
pages_beside None = pages.Public
pages_beside (Some admin) = pages.Nothing

-- the words of a list, or none where it is left out
abbrev pub words_of : Option (String Global) → List (List ℕ)
words_of None = []
words_of (Some list) = slice_split is_comma (string_bytes list)

abbrev pub is_source : List ℕ → Bool
is_source word = bytes_eq word (codes "header") || (bytes_eq word (codes "query")
    || bytes_eq word (codes "forwarded"))

-- the sources that these words name, whose paths are read strictly or not
abbrev pub sources_in : Bool → List (List ℕ) → Sources
sources_in strict words = record {
  header = list_any (λ word. bytes_eq word (codes "header")) words;
  query = list_any (λ word. bytes_eq word (codes "query")) words;
  forwarded = list_any (λ word. bytes_eq word (codes "forwarded")) words;
  strict = strict;
}

-- the sources that a list names, or one of its words names none
abbrev pub GivesSources : Bool → Option (String Global) → Result Sources HttpFault → Type 0
GivesSources strict list (Ok sources) =
    (list_all is_source (words_of list) ≡ true) × (sources ≡ sources_in strict (words_of list))
GivesSources strict list (Err fault.Source) = list_all is_source (words_of list) ≡ false
GivesSources strict list (Err fault.NoMemory) = Unit {0}
GivesSources strict list (Err _) = ⊥

abbrev pub is_call : List ℕ → Bool
is_call word = bytes_eq word (codes "mint") || (bytes_eq word (codes "attenuate")
    || (bytes_eq word (codes "inspect") || bytes_eq word (codes "check")))

-- the calls that these words name
abbrev pub calls_in : List (List ℕ) → Calls
calls_in words = record {
  mint = list_any (λ word. bytes_eq word (codes "mint")) words;
  attenuate = list_any (λ word. bytes_eq word (codes "attenuate")) words;
  inspect = list_any (λ word. bytes_eq word (codes "inspect")) words;
  check = list_any (λ word. bytes_eq word (codes "check")) words;
}

-- the calls that need no key
abbrev pub keyless_calls : Calls
keyless_calls = record { mint = false; attenuate = true; inspect = true; check = true }

-- the calls of a list; where it is left out, those that need no key
abbrev pub calls_of : Option (String Global) → Calls
calls_of None = keyless_calls
calls_of (Some list) = calls_in (words_of (Some list))

-- the calls that a list names, or one of its words names none
abbrev pub GivesCalls : Option (String Global) → Result Calls HttpFault → Type 0
GivesCalls list (Ok calls) =
    (list_all is_call (words_of list) ≡ true) × (calls ≡ calls_of list)
GivesCalls list (Err fault.Call) = list_all is_call (words_of list) ≡ false
GivesCalls list (Err fault.NoMemory) = Unit {0}
GivesCalls list (Err _) = ⊥

-- the connections over HTTP that may be live at a time
abbrev pub http_connections_of : Option ℕ → ℕ
http_connections_of None = 256
http_connections_of (Some asked) = asked

-- the seconds that a peer has for a request
abbrev pub http_patience_of : Option ℕ → ℕ
http_patience_of None = 10
http_patience_of (Some asked) = asked

-- how the connections of gateways are served: no call is answered there
pub record AreTerms (options : HttpOptions) (terms : HttpTerms) : Type 0 where
  pub status : granted_of options.granted ≡ Some terms.granted
  pub sources : GivesSources options.strict_paths options.facts (Ok terms.sources)
  pub none : terms.calls ≡ no_calls
  pub connections : terms.connections ≡ http_connections_of options.connections
  pub patience : as_nanos terms.patience ≡ http_patience_of options.patience * 10 ^ 9
  pub pages : terms.pages ≡ pages_beside options.admin

-- Of the gateways' addresses those of this machine stand before the others; no call is answered
-- there, and nothing may be minted. Calls have addresses of this machine alone. To operators
-- nothing is allowed: no token is granted.
pub record IsPlan (options : HttpOptions) (plan : HttpPlan) : Type 0 where
  pub not_moved : options.allow ≡ None
  pub here : List Address
  pub anywhere : List Address
  pub together : plan.gateways.addresses.items ≡ here ++ anywhere
  pub are_here : AreNamed Loopback options.here here
  pub are_anywhere : AreNamed Anywhere options.anywhere anywhere
  pub are_admin : AreNamed Loopback options.admin plan.operators.addresses.items
  pub admin_mode : plan.operators.permissions ≡ permissions options.mode
  pub admin_rights : AreNone plan.operators.rights
  pub are_calls : AreNamed Loopback options.calls plan.callers.addresses.items
  pub mode : plan.gateways.permissions ≡ permissions options.mode
  pub calls_mode : plan.callers.permissions ≡ permissions options.calls_mode
  pub rights : IsRights false options.names plan.gateways.rights
  pub calls_rights : IsRights plan.calls.mint options.calls_names plan.callers.rights
  pub calls : GivesCalls options.calls_allow (Ok plan.calls)
  pub terms : AreTerms options plan.terms

-- the fault that the options have
abbrev pub IsRefused : HttpOptions → HttpFault → Type 0
IsRefused options fault.Granted = granted_of options.granted ≡ None
IsRefused options fault.Source = list_all is_source (words_of options.facts) ≡ false
IsRefused options fault.Call = list_all is_call (words_of options.calls_allow) ≡ false
IsRefused options fault.Moved = ¬ (options.allow ≡ None)
IsRefused options (fault.CallsAnywhere word) = Unit {0}
IsRefused options (fault.Address word why) = Unit {0}
IsRefused options fault.NoMemory = Unit {0}
