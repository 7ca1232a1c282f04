-- Verifies at the clock.
use Rattle.std.proofs.Common.{◌≡◌, ◌↔◌, ℕ, List, Option, Some, None, Result, Ok, Err, refl, sym, ap, ◌∙◌, Bool, false}
use Rattle.mac_keys.specs.Keys.{listed}
use Rattle.mac_keys.specs.declared.keys.Keys.{Keys}
use Rattle.mac_token.specs.RawToken.{TokenParts}
use Rattle.mac_token.specs.Read.{read_of}
use Rattle.mac_token.specs.declared.fault.TokenRefusal.{TokenRefusal}
use Rattle.mac_wire.specs.Request.{Asks, verify, verify_now}
use Rattle.mac_wire.specs.declared.arrival.Arrival.TheVariants.{Payload}
use Rattle.mac_wire.specs.declared.reply.Refusal.{Refusal}
use Rattle.mac_wire.specs.declared.reply.Refusal.TheVariants as refusal
use Rattle.mac_wire.specs.declared.reply.Reply.{Reply}
use Rattle.mac_wire.specs.declared.reply.Reply.TheVariants as reply
use Rattle.mac_wire.specs.declared.request.Grant.{Grant}
use Rattle.mac_wire.specs.declared.request.Grant.TheVariants as grant
use Rattle.mac_decide.specs.Answer.{refused, told, keyed, timed, verdict_reply, verify_reply, unless_revoked, with_owner, keys_of, answer_of, answer_to, IsGranted}
use Rattle.mac_decide.specs.Reading.{verdict_of}
use Rattle.mac_decide.specs.Revocation.{is_listed_read}
use Rattle.mac_decide.specs.Terms.{Terms}
use Rattle.mac_decide.specs.declared.context.Context.{Context}
use Rattle.mac_decide.specs.declared.verdict.Verdict.{Verdict}
use Rattle.mac_decide.specs.declared.verdict.Verdict.TheVariants.{Granted, BadSignature, Unsatisfied}
use Rattle.mac_decide.proofs.AnswerLemmas.{answer_of-asked}
use Rattle.mac_decide.proofs.RevocationLemmas.{kept-owner, kept-refused, kept-with_owner}
use Rattle.mac_decide.proofs.VerdictLemmas.{verdict_of-is, one_verdict}

-- what is told under the keys that were found, at the moment that was told
abbrev now_reply : Grant → List ℕ → List (List ℕ) → Option ℕ → Option Keys → Reply
now_reply g token facts moment found =
    keyed found (λ keys. timed moment (λ second. verify_reply g token (record { moment = second; facts = facts }) keys))

-- whether the token was taken back
abbrev back : Terms → List ℕ → List ℕ → Bool
back terms name token = is_listed_read terms.table.revoked name (read_of token)

-- the answer is that reply, unless it was
now-answer : (terms : Terms) (g : Grant) (payload name token : List ℕ) (facts : List (List ℕ)) → Asks payload (verify_now g name token facts)
    → answer_of terms (Payload payload) ≡ unless_revoked (back terms name token) (now_reply g token facts terms.moment (keys_of terms name))
now-answer terms g payload name token facts asks = answer_of-asked terms payload (verify_now g name token facts) asks

pub now-then : (terms : Terms) (now then name token : List ℕ) (moment : ℕ) (facts : List (List ℕ)) → terms.moment ≡ Some moment
    → Asks now (verify_now grant.Bare name token facts) → Asks then (verify name token moment facts)
    → answer_of terms (Payload now) ≡ answer_of terms (Payload then)
now-then terms now then name token moment facts is asks_now asks_then =
    now-answer terms grant.Bare now name token facts asks_now
    ∙ ap (λ (m : Option ℕ). unless_revoked (back terms name token) (now_reply grant.Bare token facts m (keys_of terms name))) is
    ∙ sym (answer_of-asked terms then (verify name token moment facts) asks_then)

pub now-no_clock : (terms : Terms) (g : Grant) (payload name token : List ℕ) (keys : Keys) (facts : List (List ℕ)) → terms.moment ≡ None
    → keys_of terms name ≡ Some keys → Asks payload (verify_now g name token facts)
    → answer_of terms (Payload payload) ≡ refused refusal.NoClock
now-no_clock terms g payload name token keys facts none found asks =
    now-answer terms g payload name token facts asks
    ∙ ap (λ (m : Option ℕ). unless_revoked (back terms name token) (now_reply g token facts m (keys_of terms name))) none
    ∙ ap (λ (f : Option Keys). unless_revoked (back terms name token) (now_reply g token facts None f)) found
    ∙ kept-refused (back terms name token) refusal.NoClock

-- ---- whose the token is

refused-same : (read : Result TokenParts TokenRefusal) (reason : Refusal) → refused reason ≡ with_owner read (refused reason)
refused-same (Ok t) reason = refl
refused-same (Err fault) reason = refl

verdict-same : (t : TokenParts) (v : Verdict) → verdict_reply grant.Owner t v ≡ with_owner (Ok t) (verdict_reply grant.Bare t v)
verdict-same t Granted = refl
verdict-same t BadSignature = refl
verdict-same t (Unsatisfied index) = refl

told-same : (read : Result TokenParts TokenRefusal) (keys : Keys) (x : Context)
    → told read (λ t. verdict_reply grant.Owner t (verdict_of (listed keys) t x)) ≡ with_owner read (told read (λ t. verdict_reply grant.Bare t (verdict_of (listed keys) t x)))
told-same (Ok t) keys x = verdict-same t (verdict_of (listed keys) t x)
told-same (Err fault) keys x = refl

now-same : (token : List ℕ) (facts : List (List ℕ)) (moment : Option ℕ) (found : Option Keys)
    → now_reply grant.Owner token facts moment found ≡ with_owner (read_of token) (now_reply grant.Bare token facts moment found)
now-same token facts moment None = refused-same (read_of token) refusal.UnknownKey
now-same token facts None (Some keys) = refused-same (read_of token) refusal.NoClock
now-same token facts (Some second) (Some keys) = told-same (read_of token) keys (record { moment = second; facts = facts })

pub owner-same : (terms : Terms) (bare owner name token : List ℕ) (facts : List (List ℕ)) → Asks bare (verify_now grant.Bare name token facts) → Asks owner (verify_now grant.Owner name token facts)
    → answer_of terms (Payload owner) ≡ with_owner (read_of token) (answer_of terms (Payload bare))
owner-same terms bare owner name token facts asks_bare asks_owner =
    now-answer terms grant.Owner owner name token facts asks_owner
    ∙ ap (unless_revoked (back terms name token)) (now-same token facts terms.moment (keys_of terms name))
    ∙ kept-with_owner (read_of token) (back terms name token) (now_reply grant.Bare token facts terms.moment (keys_of terms name))
    ∙ ap (with_owner (read_of token)) (sym (now-answer terms grant.Bare bare name token facts asks_bare))

-- granted, and so told
abbrev IsOwners : Option Keys → List ℕ → Context → List ℕ → List ℕ → Type 0
IsOwners found token x identifier location =
    (g : IsGranted found token x) × (g.token.identifier ≡ identifier) × (g.token.location ≡ location)

owner-verdict : (t : TokenParts) (v : Verdict) (identifier location : List ℕ) → verdict_reply grant.Owner t v ≡ reply.GrantedTo identifier location
    → (v ≡ Granted) × (t.identifier ≡ identifier) × (t.location ≡ location)
owner-verdict t Granted identifier location e = (refl, cc, cc)
owner-verdict t BadSignature identifier location e = absurd (cc)
owner-verdict t (Unsatisfied index) identifier location e = absurd (cc)

owner-read : (keys : Keys) (token : List ℕ) (x : Context) (identifier location : List ℕ) (read : Result TokenParts TokenRefusal) → read_of token ≡ read
    → told read (λ t. verdict_reply grant.Owner t (verdict_of (listed keys) t x)) ≡ reply.GrantedTo identifier location → IsOwners (Some keys) token x identifier location
owner-read keys token x identifier location (Ok t) is e =
    let v = owner-verdict t (verdict_of (listed keys) t x) identifier location e in
    (record { named = keys; has_keys = refl; token = t; is_read = is; accepted = rw v.0 at (verdict_of-is (listed keys) t x) }, v.1, v.2)
owner-read keys token x identifier location (Err fault) is e = absurd (cc)

pub owner-found : (found : Option Keys) (token : List ℕ) (facts : List (List ℕ)) (moment : ℕ) (identifier location : List ℕ)
    → now_reply grant.Owner token facts (Some moment) found ≡ reply.GrantedTo identifier location → IsOwners found token (record { moment = moment; facts = facts }) identifier location
owner-found None token facts moment identifier location e = absurd (cc)
owner-found (Some keys) token facts moment identifier location e =
    owner-read keys token (record { moment = moment; facts = facts }) identifier location (read_of token) refl e

pub owner-told : (terms : Terms) (payload name token identifier location : List ℕ) (moment : ℕ) (facts : List (List ℕ)) → terms.moment ≡ Some moment
    → Asks payload (verify_now grant.Owner name token facts) → answer_of terms (Payload payload) ≡ reply.GrantedTo identifier location
    → IsOwners (keys_of terms name) token (record { moment = moment; facts = facts }) identifier location
owner-told terms payload name token identifier location moment facts is asks e =
    owner-found (keys_of terms name) token facts moment identifier location
    (kept-owner (back terms name token) _ identifier location
    (ap (λ (m : Option ℕ). unless_revoked (back terms name token) (now_reply grant.Owner token facts m (keys_of terms name))) (sym is) ∙ sym (now-answer terms grant.Owner payload name token facts asks) ∙ e)).0

-- what is granted is told so
abbrev IsToldOwner : Reply → Type 0
IsToldOwner r = (identifier : List ℕ) × (location : List ℕ) × (r ≡ reply.GrantedTo identifier location)

owner-back : (found : Option Keys) (token : List ℕ) (facts : List (List ℕ)) (moment : ℕ) → IsGranted found token (record { moment = moment; facts = facts })
    → IsToldOwner (now_reply grant.Owner token facts (Some moment) found)
owner-back found token facts moment g =
    let x : Context = record { moment = moment; facts = facts } in
    let verdict : verdict_of (listed g.named) g.token x ≡ Granted = one_verdict (listed g.named) g.token x _ Granted (verdict_of-is (listed g.named) g.token x) g.accepted in
    (g.token.identifier, g.token.location, rw (g.has_keys, g.is_read, verdict) refl)

pub owner-granted : (terms : Terms) (name token : List ℕ) (moment : ℕ) (facts : List (List ℕ)) → terms.moment ≡ Some moment
    → IsToldOwner (answer_to terms (verify_now grant.Owner name token facts)) ↔ (IsGranted (keys_of terms name) token (record { moment = moment; facts = facts }) × (back terms name token ≡ false))
owner-granted terms name token moment facts is =
    let same : answer_to terms (verify_now grant.Owner name token facts) ≡ unless_revoked (back terms name token) (now_reply grant.Owner token facts (Some moment) (keys_of terms name))
    = ap (λ (m : Option ℕ). unless_revoked (back terms name token) (now_reply grant.Owner token facts m (keys_of terms name))) is in (
      (λ told. let kept = kept-owner (back terms name token) _ told.0 told.1 (sym same ∙ told.2) in ((owner-found (keys_of terms name) token facts moment told.0 told.1 kept.0).0, kept.1)),
      (λ (g, kept). let told = owner-back (keys_of terms name) token facts moment g in
          (told.0, told.1, same ∙ ap (λ b. unless_revoked b (now_reply grant.Owner token facts (Some moment) (keys_of terms name))) kept ∙ told.2)),
    )
