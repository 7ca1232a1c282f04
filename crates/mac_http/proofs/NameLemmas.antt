-- What is found of a name's keys by who has no token of theirs.
use Rattle.std.proofs.Common.{◌≡◌, ◌⊎◌, ℕ, List, Bool, true, false, Option, Some, None, inl, inr, refl, sym, ap, subst, ◌∙◌}
use Rattle.std.specs.Prelude.{if◌then◌else◌}
use Rattle.std.specs.FinMap as map
use Rattle.http.specs.declared.request.Parts.{Parts}
use Rattle.http_uri.specs.Uri.{uri_path}
use Rattle.mac_calls.specs.Counted.{are_few}
use Rattle.mac_decide.specs.Answer.{answer_to, keyed, keys_of, timed, unless_revoked, verify_reply}
use Rattle.mac_decide.specs.Revocation.{is_listed_read}
use Rattle.mac_decide.specs.Terms.{Terms, is_allowed}
use Rattle.mac_keys.specs.KeyTable.{Table}
use Rattle.mac_keys.specs.declared.keys.Keys.{Keys}
use Rattle.mac_decide.proofs.RevocationLemmas.{kept-refused}
use Rattle.mac_token.specs.Read.{read_of}
use Rattle.mac_wire.specs.Request.{verify_now}
use Rattle.mac_wire.specs.declared.reply.Refusal.{Refusal}
use Rattle.mac_wire.specs.declared.reply.Refusal.TheVariants as refusal
use Rattle.mac_wire.specs.declared.reply.Reply.{Reply}
use Rattle.mac_wire.specs.declared.reply.Reply.TheVariants as reply
use Rattle.mac_wire.specs.declared.request.Grant.TheVariants as grant
use Rattle.mac_http.specs.declared.authorization.Scheme.{Scheme}
use Rattle.mac_http.specs.declared.finding.Finding.{Finding}
use Rattle.mac_http.specs.declared.finding.Finding.TheVariants.{Fragment, Invalid, ManyFacts, NoMoment, NoToken, Unknown, UnsafePath}
use Rattle.mac_http.specs.declared.rules.Rules.{Rules}
use Rattle.mac_http.specs.declared.rules.Sources.{Sources}
use Rattle.mac_http.specs.Authorization.{credentials_in}
use Rattle.mac_http.specs.Facts.{facts_of, tells_fragment, tells_unsafe}
use Rattle.mac_http.specs.Found.{IsHeld, found_at, found_by, found_in, found_of, found_under, terms_of}
use Rattle.mac_http.specs.Saying.{AreToldAlike}
use Rattle.mac_http.specs.Target.{target_in}

-- the token is held, or it is told as where the name has no keys
abbrev IsUntold : Finding → Finding → Type 0
IsUntold f bare = IsHeld f ⊎ AreToldAlike f bare

itself : (f : Finding) → AreToldAlike f f
itself f = λ granted response. (λ told. told, λ told. told)

by_reply : (scheme : Scheme) (why : Refusal) (r : Reply) → IsUntold (found_by scheme r) (Invalid scheme why)
by_reply scheme why reply.Granted = inr (λ granted response. (λ told. told, λ told. told))
by_reply scheme why (reply.GrantedTo identifier location) = inl tt
by_reply scheme why (reply.Token bytes) = inr (λ granted response. (λ told. told, λ told. told))
by_reply scheme why (reply.Unsatisfied index) = inl tt
by_reply scheme why (reply.Refused reason) = inr (λ granted response. (λ told. told, λ told. told))

-- a name without keys has no token
unkeyed : (terms : Terms) (name : List ℕ) (credentials : Scheme × List ℕ) (facts : List (List ℕ)) → keys_of terms name ≡ None
    → found_by credentials.0 (answer_to terms (verify_now grant.Owner name credentials.1 facts)) ≡ Invalid credentials.0 refusal.UnknownKey
unkeyed terms name credentials facts none =
    ap (λ (k : Option Keys). found_by credentials.0 (unless_revoked (is_listed_read terms.table.revoked name (read_of credentials.1)) (keyed k (λ keys. timed terms.moment (λ m. verify_reply grant.Owner credentials.1 (record { moment = m; facts = facts }) keys))))) none
    ∙ ap (found_by credentials.0) (kept-refused (is_listed_read terms.table.revoked name (read_of credentials.1)) refusal.UnknownKey)

at_moment : (terms bare : Terms) (name : List ℕ) (credentials : Scheme × List ℕ) (facts : List (List ℕ)) (moment : Option ℕ) → keys_of bare name ≡ None
    → IsUntold (found_at terms name credentials facts moment) (found_at bare name credentials facts moment)
at_moment terms bare name credentials facts None none = inr (itself NoMoment)
at_moment terms bare name credentials facts (Some moment) none =
    subst (IsUntold (found_by credentials.0 (answer_to terms (verify_now grant.Owner name credentials.1 facts))))
    (sym (unkeyed bare name credentials facts none))
    (by_reply credentials.0 refusal.UnknownKey (answer_to terms (verify_now grant.Owner name credentials.1 facts)))

if_few : (few : Bool) (f bare : Finding) → IsUntold f bare → IsUntold (if few then f else ManyFacts) (if few then bare else ManyFacts)
if_few true f bare untold = untold
if_few false f bare untold = inr (itself ManyFacts)

if_safe : (unsafe : Bool) (f bare : Finding) → IsUntold f bare → IsUntold (if unsafe then UnsafePath else f) (if unsafe then UnsafePath else bare)
if_safe true f bare untold = inr (itself UnsafePath)
if_safe false f bare untold = untold

if_whole : (broken : Bool) (f bare : Finding) → IsUntold f bare → IsUntold (if broken then Fragment else f) (if broken then Fragment else bare)
if_whole true f bare untold = inr (itself Fragment)
if_whole false f bare untold = untold

under_keys : (sources : Sources) (table bare : Table) (rules : Rules) (moment : Option ℕ) (head : Parts) (target : List ℕ × List ℕ) (o : Option (Scheme × List ℕ))
    → keys_of (terms_of bare rules moment) target.0 ≡ None
    → IsUntold (found_under sources (terms_of table rules moment) head target o) (found_under sources (terms_of bare rules moment) head target o)
under_keys sources table bare rules moment head target None none = inr (itself NoToken)
under_keys sources table bare rules moment head target (Some credentials) none =
    let facts = facts_of sources head target.1 in
    let terms = terms_of table rules moment in
    let bared = terms_of bare rules moment in
    let f = found_at terms target.0 credentials facts moment in
    let g = found_at bared target.0 credentials facts moment in
    let few = are_few facts in
    let unsafe = tells_unsafe sources head target.1 in
    if_whole (tells_fragment sources head target.1) _ _
    (if_safe unsafe _ _ (if_few few f g (at_moment terms bared target.0 credentials facts moment none)))

-- a table without keys has none that may be used
no_keys : (bare : Table) (name : List ℕ) (b : Bool) → map.get bare.keys name ≡ None → ◌≡◌ {A = Option Keys} (if b then map.get bare.keys name else None) None
no_keys bare name true none = none
no_keys bare name false none = refl

in_target : (table bare : Table) (rules : Rules) (moment : Option ℕ) (head : Parts) (o : Option (List ℕ × List ℕ)) → ((name : List ℕ) → map.get bare.keys name ≡ None)
    → IsUntold (found_in rules.sources (terms_of table rules moment) head o) (found_in rules.sources (terms_of bare rules moment) head o)
in_target table bare rules moment head None none = inr (itself Unknown)
in_target table bare rules moment head (Some target) none =
    under_keys rules.sources table bare rules moment head target (credentials_in head.headers)
    (no_keys bare target.0 (is_allowed rules.rights.now.names target.0) (none target.0))

pub told_to_holders : (table bare : Table) (rules : Rules) (moment : Option ℕ) (head : Parts) → ((name : List ℕ) → map.get bare.keys name ≡ None)
    → IsUntold (found_of table rules moment head) (found_of bare rules moment head)
told_to_holders table bare rules moment head none = in_target table bare rules moment head (target_in (uri_path head.uri)) none

-- ---- names that may not be used

both_at_moment : (terms bare : Terms) (name : List ℕ) (credentials : Scheme × List ℕ) (facts : List (List ℕ)) (moment : Option ℕ) → keys_of terms name ≡ None → keys_of bare name ≡ None
    → found_at terms name credentials facts moment ≡ found_at bare name credentials facts moment
both_at_moment terms bare name credentials facts None none bared = refl
both_at_moment terms bare name credentials facts (Some moment) none bared =
    unkeyed terms name credentials facts none ∙ sym (unkeyed bare name credentials facts bared)

both_under : (sources : Sources) (table bare : Table) (rules : Rules) (moment : Option ℕ) (head : Parts) (target : List ℕ × List ℕ) (o : Option (Scheme × List ℕ))
    → keys_of (terms_of table rules moment) target.0 ≡ None → keys_of (terms_of bare rules moment) target.0 ≡ None
    → found_under sources (terms_of table rules moment) head target o ≡ found_under sources (terms_of bare rules moment) head target o
both_under sources table bare rules moment head target None none bared = refl
both_under sources table bare rules moment head target (Some credentials) none bared =
    ap (λ f. if tells_fragment sources head target.1 then Fragment else (if tells_unsafe sources head target.1 then UnsafePath else (if are_few (facts_of sources head target.1) then f else ManyFacts)))
    (both_at_moment (terms_of table rules moment) (terms_of bare rules moment) target.0 credentials (facts_of sources head target.1) moment none bared)

another : (table : Table) (rules : Rules) (moment : Option ℕ) (name : List ℕ) → is_allowed rules.rights.now.names name ≡ false → keys_of (terms_of table rules moment) name ≡ None
another table rules moment name other = rw other refl

pub others_as_none : (table bare : Table) (rules : Rules) (moment : Option ℕ) (head : Parts) (name behind : List ℕ) → ((other : List ℕ) → map.get bare.keys other ≡ None)
    → target_in (uri_path head.uri) ≡ Some (name, behind) → is_allowed rules.rights.now.names name ≡ false
    → found_of table rules moment head ≡ found_of bare rules moment head
others_as_none table bare rules moment head name behind none named other =
    ap (found_in rules.sources (terms_of table rules moment) head) named
    ∙ both_under rules.sources table bare rules moment head (name, behind) (credentials_in head.headers) (another table rules moment name other) (another bare rules moment name other)
    ∙ sym (ap (found_in rules.sources (terms_of bare rules moment) head) named)
