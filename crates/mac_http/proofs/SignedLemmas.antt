-- Of which requests the token is noted as one whose signature a key gives.
use Rattle.std.proofs.Common.{◌≡◌, ◌∙◌, ℕ, List, Bool, true, false, Option, Some, None, Result, Ok, Err, refl, sym, ap}
use Rattle.std.specs.Prelude.{if◌then◌else◌, option_map}
use Rattle.http.specs.declared.request.Parts.{Parts}
use Rattle.http_uri.specs.Uri.{uri_path}
use Rattle.mac_calls.specs.Counted.{are_few}
use Rattle.mac_decide.proofs.RevocationLemmas.{kept-refused}
use Rattle.mac_decide.proofs.VerdictLemmas.{verdict_of-is}
use Rattle.mac_decide.specs.Answer.{keyed, keys_of, refused, timed, told, unless_revoked, verdict_reply, verify_reply}
use Rattle.mac_decide.specs.Minted.{Minted}
use Rattle.mac_decide.specs.Reading.{verdict_of}
use Rattle.mac_decide.specs.Revocation.{is_listed_read}
use Rattle.mac_decide.specs.Terms.{Terms}
use Rattle.mac_decide.specs.Verdict.{IsVerdict}
use Rattle.mac_decide.specs.declared.context.Context.{Context}
use Rattle.mac_decide.specs.declared.verdict.Verdict.{Verdict}
use Rattle.mac_decide.specs.declared.verdict.Verdict.TheVariants as verdict
use Rattle.mac_keys.specs.KeyTable.{Table}
use Rattle.mac_keys.specs.Keys.{listed}
use Rattle.mac_keys.specs.declared.keys.Keys.{Keys}
use Rattle.mac_token.specs.RawToken.{TokenParts}
use Rattle.mac_token.specs.Read.{read_of}
use Rattle.mac_token.specs.declared.fault.TokenRefusal.{TokenRefusal}
use Rattle.mac_token.specs.declared.fault.TokenRefusal.TheVariants as token
use Rattle.mac_wire.specs.declared.reply.Refusal.{Refusal}
use Rattle.mac_wire.specs.declared.reply.Refusal.TheVariants as refusal
use Rattle.mac_wire.specs.declared.reply.Reply.{Reply}
use Rattle.mac_wire.specs.declared.request.Grant.TheVariants as grant
use Rattle.mac_http.specs.declared.authorization.Scheme.{Scheme}
use Rattle.mac_http.specs.declared.finding.Finding.{Finding}
use Rattle.mac_http.specs.declared.finding.Finding.TheVariants.{Fragment, Invalid, ManyFacts, UnsafePath}
use Rattle.mac_http.specs.declared.rules.Rules.{Rules}
use Rattle.mac_http.specs.Authorization.{credentials_in}
use Rattle.mac_http.specs.Facts.{facts_of, tells_fragment, tells_unsafe}
use Rattle.mac_http.specs.Found.{found_at, found_by, found_in, found_of, found_under, terms_of}
use Rattle.mac_http.specs.Noted.{IsSignedBy, signed_in}
use Rattle.mac_http.specs.Reason.{is_signed}
use Rattle.mac_http.specs.Target.{target_in}
use Rattle.mac_http.proofs.LawLemmas.{found_now, found_plainly}

-- what is said of a reply that may be about a token that was taken back
abbrev said_of : Scheme → Bool → Reply → Bool
said_of scheme b r = is_signed (found_by scheme (unless_revoked b r))

-- ---- what is noted is signed

by_refusal : (scheme : Scheme) (b : Bool) (why : Refusal) → said_of scheme b (refused why) ≡ true → is_signed (Invalid scheme why) ≡ true
by_refusal scheme b why e = sym (ap (λ r. is_signed (found_by scheme r)) (kept-refused b why)) ∙ e

by_verdict : (t : TokenParts) (keys : List (List ℕ)) (x : Context) (scheme : Scheme) (b : Bool) (v : Verdict) → IsVerdict keys t x v → said_of scheme b (verdict_reply grant.Owner t v) ≡ true
    → Minted keys t
by_verdict t keys x scheme b verdict.Granted is e = is.minted
by_verdict t keys x scheme b verdict.BadSignature is e = let bad = by_refusal scheme b refusal.BadSignature e in absurd (cc)
by_verdict t keys x scheme b (verdict.Unsatisfied index) is e = is.0

-- what is known of a token that is noted
abbrev IsSigned : Option Keys → List ℕ → Type 0
IsSigned found bytes = (keys : Keys) × (t : TokenParts) × (found ≡ Some keys) × (read_of bytes ≡ Ok t) × Minted (listed keys) t

by_read : (keys : Keys) (bytes : List ℕ) (x : Context) (scheme : Scheme) (b : Bool) (read : Result TokenParts TokenRefusal) → read_of bytes ≡ read
    → said_of scheme b (told read (λ t. verdict_reply grant.Owner t (verdict_of (listed keys) t x))) ≡ true → IsSigned (Some keys) bytes
by_read keys bytes x scheme b (Ok t) is e = (keys, t, refl, is, by_verdict t (listed keys) x scheme b (verdict_of (listed keys) t x) (verdict_of-is (listed keys) t x) e)
by_read keys bytes x scheme b (Err token.Transport) is e = let bad = by_refusal scheme b refusal.Transport e in absurd (cc)
by_read keys bytes x scheme b (Err token.Malformed) is e = let bad = by_refusal scheme b refusal.Malformed e in absurd (cc)
by_read keys bytes x scheme b (Err token.ThirdParty) is e = let bad = by_refusal scheme b refusal.ThirdParty e in absurd (cc)
by_read keys bytes x scheme b (Err token.Limit) is e = let bad = by_refusal scheme b refusal.Limit e in absurd (cc)
by_read keys bytes x scheme b (Err token.CaveatLocation) is e = let bad = by_refusal scheme b refusal.CaveatLocation e in absurd (cc)

by_clock : (found : Option Keys) (bytes : List ℕ) (facts : List (List ℕ)) (at : Option ℕ) (scheme : Scheme) (b : Bool)
    → said_of scheme b (keyed found (λ keys. timed at (λ m. verify_reply grant.Owner bytes (record { moment = m; facts = facts }) keys))) ≡ true → IsSigned found bytes
by_clock None bytes facts at scheme b e = let bad = by_refusal scheme b refusal.UnknownKey e in absurd (cc)
by_clock (Some keys) bytes facts None scheme b e = let bad = by_refusal scheme b refusal.NoClock e in absurd (cc)
by_clock (Some keys) bytes facts (Some m) scheme b e = by_read keys bytes (record { moment = m; facts = facts }) scheme b (read_of bytes) refl e

by_moment : (terms : Terms) (name : List ℕ) (credentials : Scheme × List ℕ) (facts : List (List ℕ)) (moment : Option ℕ) → is_signed (found_at terms name credentials facts moment) ≡ true
    → IsSigned (keys_of terms name) credentials.1
by_moment terms name credentials facts None e = absurd (cc)
by_moment terms name credentials facts (Some m) e =
    by_clock (keys_of terms name) credentials.1 facts terms.moment credentials.0 (is_listed_read terms.table.revoked name (read_of credentials.1)) e

if_found : (broken unsafe few : Bool) (f : Finding) → is_signed (if broken then Fragment else (if unsafe then UnsafePath else (if few then f else ManyFacts))) ≡ true → is_signed f ≡ true
if_found true unsafe few f e = absurd (cc)
if_found false true few f e = absurd (cc)
if_found false false true f e = e
if_found false false false f e = absurd (cc)

module _ (table : Table) (rules : Rules) (moment : Option ℕ) (head : Parts) (bytes : List ℕ) where
  if_signed : (is : Bool) → signed_in is head ≡ Some bytes → (is ≡ true) × (option_map (λ c. c.1) (credentials_in head.headers) ≡ Some bytes)
  if_signed true e = (refl, e)
  if_signed false e = absurd (cc)

  with_token : (name behind : List ℕ) (o : Option (Scheme × List ℕ)) → target_in (uri_path head.uri) ≡ Some (name, behind) → credentials_in head.headers ≡ o
      → is_signed (found_under rules.sources (terms_of table rules moment) head (name, behind) o) ≡ true → option_map (λ c. c.1) o ≡ Some bytes → IsSignedBy table rules moment head bytes
  with_token name behind None named brought signed e = absurd (cc)
  with_token name behind (Some credentials) named brought signed e =
      let facts = facts_of rules.sources head behind in
      let terms = terms_of table rules moment in
      let at = if_found (tells_fragment rules.sources head behind) (tells_unsafe rules.sources head behind) (are_few facts) (found_at terms name credentials facts moment) signed in
      let same : credentials.1 ≡ bytes = cc in
      let known = by_moment terms name credentials facts moment at in
      record {
        name = name;
        behind = behind;
        named = named;
        scheme = credentials.0;
        brought = brought ∙ ap (λ (c : List ℕ). Some (credentials.0, c)) same;
        keys = known.0;
        token = known.1;
        has_keys = known.2;
        is_read = ap read_of (sym same) ∙ known.3;
        minted = known.4;
      }

  with_target : (o : Option (List ℕ × List ℕ)) → target_in (uri_path head.uri) ≡ o → is_signed (found_in rules.sources (terms_of table rules moment) head o) ≡ true
      → option_map (λ c. c.1) (credentials_in head.headers) ≡ Some bytes → IsSignedBy table rules moment head bytes
  with_target None named signed e = absurd (cc)
  with_target (Some target) named signed e = with_token target.0 target.1 (credentials_in head.headers) named refl signed e

pub noted_signed : (table : Table) (rules : Rules) (moment : Option ℕ) (head : Parts) (bytes : List ℕ) → signed_in (is_signed (found_of table rules moment head)) head ≡ Some bytes
    → IsSignedBy table rules moment head bytes
noted_signed table rules moment head bytes e =
    let both = if_signed table rules moment head bytes (is_signed (found_of table rules moment head)) e in
    with_target table rules moment head bytes (target_in (uri_path head.uri)) refl both.0 both.1

-- ---- what is signed is noted

of_verdict : (t : TokenParts) (keys : List (List ℕ)) (x : Context) (scheme : Scheme) (b : Bool) (v : Verdict) → IsVerdict keys t x v → Minted keys t
    → said_of scheme b (verdict_reply grant.Owner t v) ≡ true
of_verdict t keys x scheme false verdict.Granted is minted = refl
of_verdict t keys x scheme true verdict.Granted is minted = refl
of_verdict t keys x scheme b verdict.BadSignature is minted = absurd (is minted)
of_verdict t keys x scheme false (verdict.Unsatisfied index) is minted = refl
of_verdict t keys x scheme true (verdict.Unsatisfied index) is minted = refl

pub signed_noted : (table : Table) (rules : Rules) (moment : Option ℕ) (head : Parts) (bytes : List ℕ) (second : ℕ) (s : IsSignedBy table rules moment head bytes) → moment ≡ Some second
    → tells_fragment rules.sources head s.behind ≡ false → tells_unsafe rules.sources head s.behind ≡ false → are_few (facts_of rules.sources head s.behind) ≡ true
    → signed_in (is_signed (found_of table rules moment head)) head ≡ Some bytes
signed_noted table rules moment head bytes second s at whole safe few =
    let sources = rules.sources in
    let terms = terms_of table rules moment in
    let facts = facts_of sources head s.behind in
    let x : Context = record { moment = second; facts = facts } in
    let back = is_listed_read table.revoked s.name (read_of bytes) in
    let found = ap (found_in sources terms head) s.named
    ∙ ap (found_under sources terms head (s.name, s.behind)) s.brought
    ∙ found_plainly sources terms head (s.name, s.behind) (s.scheme, bytes) whole safe few
    ∙ found_now terms s.name (s.scheme, bytes) facts second s.keys at s.has_keys
    ∙ ap (λ (r : Result TokenParts TokenRefusal). found_by s.scheme (unless_revoked back (told r (λ t. verdict_reply grant.Owner t (verdict_of (listed s.keys) t x))))) s.is_read in
    let signed = ap is_signed found ∙ of_verdict s.token (listed s.keys) x s.scheme back (verdict_of (listed s.keys) s.token x) (verdict_of-is (listed s.keys) s.token x) s.minted in
    ap (λ is. signed_in is head) signed ∙ ap (option_map (λ c. c.1)) s.brought
