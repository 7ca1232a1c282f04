-- The laws of the definitions.
use Rattle.std.proofs.Common.{◌≡◌, ◌∙◌, refl, sym, ap, subst, ℕ, zero, suc, ◌<◌, ◌≤◌, Bool, true, false, List, [], ◌∷◌, length, take, Option, Some, None, Result, Ok, Err, ◌⊎◌, ⊎_elim, arith, Contains}
use Rattle.std.specs.Prelude.{if◌then◌else◌}
use Rattle.std.proofs.lemmas.List.Elements.{Contains-push, Contains-push_cases, Contains-append_cases, Contains-append_left, Contains-append_right}
use Rattle.http.specs.declared.request.Parts.{Parts}
use Rattle.http_uri.specs.Uri.{uri_path}
use Rattle.mac_calls.specs.Counted.{are_few}
use Rattle.mac_decide.specs.Answer.{IsGranted, keyed, keys_of, timed, told, unless_revoked, verdict_reply, verify_reply}
use Rattle.mac_decide.specs.Reading.{verdict_of}
use Rattle.mac_decide.specs.Revocation.{is_listed_read}
use Rattle.mac_decide.specs.Terms.{Terms}
use Rattle.mac_decide.specs.declared.context.Context.{Context}
use Rattle.mac_decide.proofs.NowLemmas.{owner-granted}
use Rattle.mac_keys.specs.KeyTable.{Table}
use Rattle.mac_keys.specs.Keys.{listed}
use Rattle.mac_keys.specs.declared.keys.Keys.{Keys}
use Rattle.mac_token.specs.RawToken.{TokenParts}
use Rattle.mac_token.specs.Read.{read_of}
use Rattle.mac_token.specs.declared.fault.TokenRefusal.{TokenRefusal}
use Rattle.mac_wire.specs.declared.reply.Reply.{Reply}
use Rattle.mac_wire.specs.declared.reply.Reply.TheVariants as reply
use Rattle.mac_wire.specs.declared.request.Grant.TheVariants as grant
use Rattle.mac_http.specs.declared.authorization.Scheme.{Scheme}
use Rattle.mac_http.specs.declared.finding.Finding.TheVariants.{Granted, Fragment, UnsafePath, ManyFacts}
use Rattle.mac_http.specs.declared.rules.Rules.{Rules}
use Rattle.mac_http.specs.declared.rules.Sources.{Sources}
use Rattle.mac_http.specs.Authorization.{credentials_in}
use Rattle.mac_http.specs.Facts.{facts_of, tells_fragment, tells_unsafe}
use Rattle.mac_http.specs.Found.{found_by, found_at, found_with, found_under, found_in, found_of, terms_of, context_of, IsGrantedBy}
use Rattle.mac_http.specs.Path.{IsStep, is_step, step_of, steps_within}
use Rattle.mac_http.specs.Target.{target_in}

-- a reply of which Granted is found tells whose the token is
granted_by : (scheme : Scheme) (r : Reply) (identifier location : List ℕ) → found_by scheme r ≡ Granted identifier location → r ≡ reply.GrantedTo identifier location
granted_by scheme reply.Granted identifier location e = absurd (cc)
granted_by scheme (reply.GrantedTo i l) identifier location e = cc
granted_by scheme (reply.Token bytes) identifier location e = absurd (cc)
granted_by scheme (reply.Unsatisfied index) identifier location e = absurd (cc)
granted_by scheme (reply.Refused reason) identifier location e = absurd (cc)

-- where no fragment and no unsafe path is told and the facts are few, what is found with them
pub found_plainly : (sources : Sources) (terms : Terms) (head : Parts) (target : List ℕ × List ℕ) (credentials : Scheme × List ℕ)
    → tells_fragment sources head target.1 ≡ false → tells_unsafe sources head target.1 ≡ false → are_few (facts_of sources head target.1) ≡ true
    → found_with sources terms head target credentials ≡ found_at terms target.0 credentials (facts_of sources head target.1) terms.moment
found_plainly sources terms head target credentials whole safe few = rw (whole, safe, few) refl

-- what is found at the moment of the terms, under keys that the name has
pub found_now : (terms : Terms) (name : List ℕ) (credentials : Scheme × List ℕ) (facts : List (List ℕ)) (moment : ℕ) (keys : Keys) → terms.moment ≡ Some moment → keys_of terms name ≡ Some keys
    → found_at terms name credentials facts terms.moment
    ≡ found_by credentials.0 (unless_revoked (is_listed_read terms.table.revoked name (read_of credentials.1)) (verify_reply grant.Owner credentials.1 (record { moment = moment; facts = facts }) keys))
found_now terms name credentials facts moment keys is named =
    let back = is_listed_read terms.table.revoked name (read_of credentials.1) in
    let tell : Option ℕ → Keys → Reply = λ at k. timed at (λ m. verify_reply grant.Owner credentials.1 (record { moment = m; facts = facts }) k) in
    ap (found_at terms name credentials facts) is
    ∙ ap (λ (k : Option Keys). found_by credentials.0 (unless_revoked back (keyed k (tell terms.moment)))) named
    ∙ ap (λ (m : Option ℕ). found_by credentials.0 (unless_revoked back (tell m keys))) is

-- two contexts by which each token has one verdict find one thing
pub found_alike : (scheme : Scheme) (keys : Keys) (back : Bool) (x y : Context) (r : Result TokenParts TokenRefusal)
    → ((t : TokenParts) → verdict_of (listed keys) t x ≡ verdict_of (listed keys) t y)
    → found_by scheme (unless_revoked back (told r (λ t. verdict_reply grant.Owner t (verdict_of (listed keys) t x))))
    ≡ found_by scheme (unless_revoked back (told r (λ t. verdict_reply grant.Owner t (verdict_of (listed keys) t y))))
found_alike scheme keys back x y (Err why) same = refl
found_alike scheme keys back x y (Ok t) same = ap (λ v. found_by scheme (unless_revoked back (verdict_reply grant.Owner t v))) (same t)

-- ---- what is granted

module _ (table : Table) (rules : Rules) (moment : Option ℕ) (head : Parts) (identifier location : List ℕ) where
  granted_so : (name behind : List ℕ) (credentials : Scheme × List ℕ) (second : ℕ) → moment ≡ Some second → found_at (terms_of table rules moment) name credentials (facts_of rules.sources head behind) (Some second) ≡ Granted identifier location
      → IsGranted (keys_of (terms_of table rules moment) name) credentials.1 (context_of rules.sources second head behind) × (is_listed_read table.revoked name (read_of credentials.1) ≡ false)
  granted_so name behind credentials second is e =
      (owner-granted (terms_of table rules moment) name credentials.1 second (facts_of rules.sources head behind) is).0 (identifier, location, granted_by credentials.0 _ identifier location e)

  at_moment : (name behind : List ℕ) (credentials : Scheme × List ℕ) (m : Option ℕ) → target_in (uri_path head.uri) ≡ Some (name, behind)
      → credentials_in head.headers ≡ Some credentials → tells_fragment rules.sources head behind ≡ false → tells_unsafe rules.sources head behind ≡ false
      → are_few (facts_of rules.sources head behind) ≡ true → moment ≡ m
      → found_at (terms_of table rules moment) name credentials (facts_of rules.sources head behind) m ≡ Granted identifier location → IsGrantedBy table rules moment head
  at_moment name behind credentials None named brought whole safe few is e = absurd (cc)
  at_moment name behind credentials (Some second) named brought whole safe few is e = record {
    name = name;
    behind = behind;
    named = named;
    scheme = credentials.0;
    token = credentials.1;
    brought = brought;
    whole = whole;
    safe = safe;
    few = few;
    second = second;
    told = is;
    granted = (granted_so name behind credentials second is e).0;
    kept = (granted_so name behind credentials second is e).1;
  }

  with_facts : (name behind : List ℕ) (credentials : Scheme × List ℕ) (broken unsafe few : Bool) → target_in (uri_path head.uri) ≡ Some (name, behind)
      → credentials_in head.headers ≡ Some credentials → tells_fragment rules.sources head behind ≡ broken → tells_unsafe rules.sources head behind ≡ unsafe
      → are_few (facts_of rules.sources head behind) ≡ few
      → (if broken then Fragment else (if unsafe then UnsafePath
      else (if few then found_at (terms_of table rules moment) name credentials (facts_of rules.sources head behind) moment else ManyFacts))) ≡ Granted identifier location
      → IsGrantedBy table rules moment head
  with_facts name behind credentials true unsafe few named brought bs us fs e = absurd (cc)
  with_facts name behind credentials false true few named brought bs us fs e = absurd (cc)
  with_facts name behind credentials false false true named brought bs us fs e = at_moment name behind credentials moment named brought bs us fs refl e
  with_facts name behind credentials false false false named brought bs us fs e = absurd (cc)

  with_token : (name behind : List ℕ) (o : Option (Scheme × List ℕ)) → target_in (uri_path head.uri) ≡ Some (name, behind)
      → credentials_in head.headers ≡ o → found_under rules.sources (terms_of table rules moment) head (name, behind) o ≡ Granted identifier location
      → IsGrantedBy table rules moment head
  with_token name behind None named brought e = absurd (cc)
  with_token name behind (Some credentials) named brought e = with_facts name behind credentials _ _ _ named brought refl refl refl e

  with_target : (o : Option (List ℕ × List ℕ)) → target_in (uri_path head.uri) ≡ o → found_in rules.sources (terms_of table rules moment) head o ≡ Granted identifier location
      → IsGrantedBy table rules moment head
  with_target None named e = absurd (cc)
  with_target (Some target) named e = with_token target.0 target.1 _ named refl e

abbrev IsFoundGranted : Table → Rules → Option ℕ → Parts → Type 0
IsFoundGranted table rules moment head = (identifier : List ℕ) × (location : List ℕ) × (found_of table rules moment head ≡ Granted identifier location)

pub granted_forth : (table : Table) (rules : Rules) (moment : Option ℕ) (head : Parts) → IsFoundGranted table rules moment head → IsGrantedBy table rules moment head
granted_forth table rules moment head (identifier, location, e) = with_target table rules moment head identifier location _ refl e

pub granted_back : (table : Table) (rules : Rules) (moment : Option ℕ) (head : Parts) → IsGrantedBy table rules moment head → IsFoundGranted table rules moment head
granted_back table rules moment head g =
    let sources = rules.sources in
    let terms = terms_of table rules moment in
    let facts = facts_of sources head g.behind in
    let owner = (owner-granted terms g.name g.token g.second facts g.told).1 (g.granted, g.kept) in (
      owner.0,
      owner.1,
      ap (found_in sources terms head) g.named
          ∙ ap (found_under sources terms head (g.name, g.behind)) g.brought
          ∙ found_plainly sources terms head (g.name, g.behind) (g.scheme, g.token) g.whole g.safe g.few
          ∙ ap (found_at terms g.name (g.scheme, g.token) facts) g.told
          ∙ ap (found_by g.scheme) owner.2,
    )

-- ---- steps

one_of_one : (x y : List ℕ) → Contains (x ∷ []) y → x ≡ y
one_of_one x y within =
    ⊎_elim (λ (none : Contains [] y). absurd (omega (arith, none.1))) (λ e. e) (Contains-push_cases [] x y within)

last_is : (path step : List ℕ) (n : ℕ) (b : Bool) → is_step path (suc n) ≡ b → suc n ≤ length path → Contains (if b then take (suc n) path ∷ [] else []) step
    → IsStep path step
last_is path step n true ends within found =
    record { count = suc n; above = omega arith; within = within; ends = ends; front = sym (one_of_one _ _ found) }
last_is path step n false ends within found = absurd (omega (arith, found.1))

pub are_fronts : (path step : List ℕ) (n : ℕ) → n ≤ length path → Contains (steps_within path n) step → IsStep path step
unfolding steps_within
are_fronts path step zero within found = absurd (omega (arith, found.1))
are_fronts path step (suc n) within found =
    ⊎_elim
    (λ earlier. are_fronts path step n (omega arith) earlier)
    (λ last. last_is path step n _ refl within last)
    (Contains-append_cases (steps_within path n) (step_of path (suc n)) step found)

pub are_steps : (path : List ℕ) (n count : ℕ) → 0 < count → count ≤ n → is_step path count ≡ true → Contains (steps_within path n) (take count path)
unfolding steps_within
are_steps path zero count above within ends = absurd (omega arith)
are_steps path (suc n) count above within ends =
    ⊎_elim
    (λ (below : count ≤ n). Contains-append_left (steps_within path n) (step_of path (suc n)) _ (are_steps path n count above below ends))
    (λ (here : count ≡ suc n). Contains-append_right (steps_within path n) (step_of path (suc n)) _
    (subst (λ c. Contains (step_of path (suc n)) (take c path)) (sym here) (rw (rw here at ends) (Contains-push [] (take (suc n) path)))))
    (last_or_before count n within)
  where
    last_or_before : (a b : ℕ) → a ≤ suc b → (a ≤ b) ⊎ (a ≡ suc b)
    last_or_before a b within = grind arith
