-- Laws of tokens that were taken back.
use Rattle.std.proofs.Common.{◌≡◌, ◌↔◌, ℕ, List, Option, Some, None, Result, Ok, Err, Bool, true, false, refl, sym, ap, ◌∙◌}
use Rattle.mac_keys.specs.Keys.{listed}
use Rattle.mac_keys.specs.Revoked.{Revoked, is_listed, nothing}
use Rattle.mac_keys.specs.declared.keys.Keys.{Keys}
use Rattle.mac_keys.proofs.RevokedLemmas.{listed-nothing}
use Rattle.mac_token.specs.RawToken.{TokenParts}
use Rattle.mac_token.specs.Read.{read_of}
use Rattle.mac_token.specs.declared.fault.TokenRefusal.{TokenRefusal}
use Rattle.mac_token.specs.declared.fault.TokenRefusal.TheVariants as token
use Rattle.mac_wire.specs.Request.{Asked, mint, attenuate, verify, verify_now}
use Rattle.mac_wire.specs.declared.arrival.Arrival.{Arrival}
use Rattle.mac_wire.specs.declared.reply.Refusal.TheVariants as refusal
use Rattle.mac_wire.specs.declared.reply.Reply.{Reply}
use Rattle.mac_wire.specs.declared.reply.Reply.TheVariants as reply
use Rattle.mac_wire.specs.declared.request.Grant.TheVariants as grant
use Rattle.mac_decide.specs.Answer.{answer_of, answer_to, basis_of, keyed, keys_of, refused, reply_of, request_reply, tells_minted, told, unless_revoked, verdict_reply, verify_reply}
use Rattle.mac_decide.specs.Minted.{Minted, add}
use Rattle.mac_decide.specs.Reading.{verdict_of}
use Rattle.mac_decide.specs.Revocation.{asked_in, is_arrival_revoked, is_asked_revoked, is_listed_read, is_revoked}
use Rattle.mac_decide.specs.Seen.{is_minted_read}
use Rattle.mac_decide.specs.Terms.{Terms, without_list}
use Rattle.mac_decide.specs.Verdict.{IsVerdict}
use Rattle.mac_decide.specs.declared.context.Context.{Context}
use Rattle.mac_decide.specs.declared.verdict.Verdict.{Verdict}
use Rattle.mac_decide.specs.declared.verdict.Verdict.TheVariants.{Granted, BadSignature, Unsatisfied}
use Rattle.mac_decide.proofs.RevocationLemmas.{kept-granted, kept-revoked, kept-told}
use Rattle.mac_decide.proofs.SeenLemmas.{read-minted}
use Rattle.mac_decide.proofs.VerdictLemmas.{minted-tested, verdict_of-is}

-- ---- nothing was taken back

read-nothing : (list : Revoked) (name : List ℕ) (read : Result TokenParts TokenRefusal) → list ≡ nothing → is_listed_read list name read ≡ false
read-nothing list name (Ok t) none = listed-nothing list name t.identifier none
read-nothing list name (Err reason) none = refl

request-nothing : (list : Revoked) (q : Asked) → list ≡ nothing → is_revoked list q ≡ false
request-nothing list (mint form name location identifier caveats) none = refl
request-nothing list (attenuate form t caveats) none = refl
request-nothing list (verify name t moment facts) none = read-nothing list name (read_of t) none
request-nothing list (verify_now g name t facts) none = read-nothing list name (read_of t) none

asked-nothing : (list : Revoked) (q : Option Asked) → list ≡ nothing → is_asked_revoked list q ≡ false
asked-nothing list None none = refl
asked-nothing list (Some q) none = request-nothing list q none

arrival-nothing : (list : Revoked) (a : Arrival) → list ≡ nothing → is_arrival_revoked list a ≡ false
arrival-nothing list a none = asked-nothing list (asked_in a) none

pub empty-arrival : (terms : Terms) (a : Arrival) → terms.table.revoked ≡ nothing → answer_of terms a ≡ reply_of a (record (basis_of terms a) { is_revoked = false })
unfolding answer_of
empty-arrival terms a none = ap (λ (b : Bool). reply_of a (record (basis_of terms a) { is_revoked = b })) (arrival-nothing terms.table.revoked a none)

pub empty-request : (terms : Terms) (q : Asked) → terms.table.revoked ≡ nothing → answer_to terms q ≡ answer_to (without_list terms) q
empty-request terms (mint form name location identifier caveats) none = refl
empty-request terms (attenuate form t caveats) none = refl
empty-request terms (verify name t moment facts) none =
    ap (λ (b : Bool). unless_revoked b (keyed (keys_of terms name) (verify_reply grant.Bare t (record { moment = moment; facts = facts }))))
    (read-nothing terms.table.revoked name (read_of t) none ∙ sym (read-nothing nothing name (read_of t) refl))
empty-request terms (verify_now g name t facts) none =
    ap (λ (b : Bool). request_reply (verify_now g name t facts) (record { keys = keys_of terms name; is_revoked = b; may_mint = terms.rights.may_mint; moment = terms.moment }))
    (read-nothing terms.table.revoked name (read_of t) none ∙ sym (read-nothing nothing name (read_of t) refl))

-- ---- some were

-- the reply to a verify, whatever was taken back
abbrev bare_reply : Terms → List ℕ → List ℕ → ℕ → List (List ℕ) → Reply
bare_reply terms name t moment facts = keyed (keys_of terms name) (verify_reply grant.Bare t (record { moment = moment; facts = facts }))

-- that of terms without a list
without : (terms : Terms) (name t : List ℕ) (moment : ℕ) (facts : List (List ℕ)) → answer_to (without_list terms) (verify name t moment facts) ≡ bare_reply terms name t moment facts
without terms name t moment facts = ap (λ (b : Bool). unless_revoked b (bare_reply terms name t moment facts)) (read-nothing nothing name (read_of t) refl)

pub granted-unlisted : (terms : Terms) (name t : List ℕ) (moment : ℕ) (facts : List (List ℕ))
    → (answer_to terms (verify name t moment facts) ≡ reply.Granted)
    ↔ ((answer_to (without_list terms) (verify name t moment facts) ≡ reply.Granted) × (is_listed_read terms.table.revoked name (read_of t) ≡ false))
granted-unlisted terms name t moment facts = (
  (λ e. let kept = kept-granted (is_listed_read terms.table.revoked name (read_of t)) (bare_reply terms name t moment facts) e in (without terms name t moment facts ∙ kept.0, kept.1)),
  (λ (granted, unlisted). ap (λ b. unless_revoked b (bare_reply terms name t moment facts)) unlisted ∙ sym (without terms name t moment facts) ∙ granted),
)

-- no verdict is told as revoked
verdict-other : (t : TokenParts) (v : Verdict) → ¬ (verdict_reply grant.Bare t v ≡ refused refusal.Revoked)
verdict-other t Granted e = absurd (cc)
verdict-other t BadSignature e = absurd (cc)
verdict-other t (Unsatisfied index) e = absurd (cc)

told-other : (read : Result TokenParts TokenRefusal) (keys : Keys) (x : Context) → ¬ (told read (λ t. verdict_reply grant.Bare t (verdict_of (listed keys) t x)) ≡ refused refusal.Revoked)
told-other (Ok t) keys x e = verdict-other t (verdict_of (listed keys) t x) e
told-other (Err token.Transport) keys x e = absurd (cc)
told-other (Err token.Malformed) keys x e = absurd (cc)
told-other (Err token.ThirdParty) keys x e = absurd (cc)
told-other (Err token.Limit) keys x e = absurd (cc)
told-other (Err token.CaveatLocation) keys x e = absurd (cc)

keyed-other : (found : Option Keys) (t : List ℕ) (x : Context) → ¬ (keyed found (verify_reply grant.Bare t x) ≡ refused refusal.Revoked)
keyed-other None t x e = absurd (cc)
keyed-other (Some keys) t x e = told-other (read_of t) keys x e

-- what is known of a token that is told so
abbrev IsTold : Revoked → Option Keys → List ℕ → List ℕ → Type 0
IsTold list found name bytes = (keys : Keys) × (t : TokenParts) × (found ≡ Some keys) × (read_of bytes ≡ Ok t) × Minted (listed keys) t × (is_listed list name t.identifier ≡ true)

read-told : (list : Revoked) (name bytes : List ℕ) (keys : Keys) (read : Result TokenParts TokenRefusal) → read_of bytes ≡ read → is_listed_read list name read ≡ true → is_minted_read keys read ≡ true
    → IsTold list (Some keys) name bytes
read-told list name bytes keys (Ok t) is back minted = (keys, t, refl, is, minted-tested (listed keys) t minted, back)
read-told list name bytes keys (Err reason) is back minted = absurd (cc)

found-told : (list : Revoked) (found : Option Keys) (name bytes : List ℕ) (x : Context) → is_listed_read list name (read_of bytes) ≡ true → tells_minted (keyed found (verify_reply grant.Bare bytes x)) ≡ true
    → IsTold list found name bytes
found-told list None name bytes x back minted = absurd (cc)
found-told list (Some keys) name bytes x back minted = read-told list name bytes keys (read_of bytes) refl back (read-minted grant.Bare x keys (read_of bytes) minted)

pub told-minted : (terms : Terms) (name bytes : List ℕ) (moment : ℕ) (facts : List (List ℕ)) → answer_to terms (verify name bytes moment facts) ≡ refused refusal.Revoked
    → IsTold terms.table.revoked (keys_of terms name) name bytes
told-minted terms name bytes moment facts e =
    let x : Context = record { moment = moment; facts = facts } in
    let both = kept-revoked (is_listed_read terms.table.revoked name (read_of bytes)) (bare_reply terms name bytes moment facts) (keyed-other (keys_of terms name) bytes x) e in
    found-told terms.table.revoked (keys_of terms name) name bytes x both.0 both.1

-- what tells that a token is minted
minted-tells : (keys : List (List ℕ)) (t : TokenParts) (x : Context) (v : Verdict) → IsVerdict keys t x v → Minted keys t → tells_minted (verdict_reply grant.Bare t v) ≡ true
minted-tells keys t x Granted is minted = refl
minted-tells keys t x BadSignature is minted = absurd (is minted)
minted-tells keys t x (Unsatisfied index) is minted = refl

pub refused-listed : (terms : Terms) (name bytes : List ℕ) (moment : ℕ) (facts : List (List ℕ)) (keys : Keys) (t : TokenParts) → keys_of terms name ≡ Some keys → read_of bytes ≡ Ok t
    → Minted (listed keys) t → is_listed terms.table.revoked name t.identifier ≡ true → answer_to terms (verify name bytes moment facts) ≡ refused refusal.Revoked
refused-listed terms name bytes moment facts keys t found read minted back =
    let x : Context = record { moment = moment; facts = facts } in
    kept-told (is_listed_read terms.table.revoked name (read_of bytes)) (bare_reply terms name bytes moment facts)
    (ap (is_listed_read terms.table.revoked name) read ∙ back)
    (ap (λ (f : Option Keys). tells_minted (keyed f (verify_reply grant.Bare bytes x))) found
    ∙ ap (λ (r : Result TokenParts TokenRefusal). tells_minted (told r (λ u. verdict_reply grant.Bare u (verdict_of (listed keys) u x)))) read
    ∙ minted-tells (listed keys) t x (verdict_of (listed keys) t x) (verdict_of-is (listed keys) t x) minted)

pub narrowed-alike : (terms : Terms) (name old new : List ℕ) (t : TokenParts) (caveats : List (List ℕ)) → read_of old ≡ Ok t → read_of new ≡ Ok (add t caveats)
    → is_listed_read terms.table.revoked name (read_of new) ≡ is_listed_read terms.table.revoked name (read_of old)
narrowed-alike terms name old new t caveats before after =
    ap (is_listed_read terms.table.revoked name) after ∙ sym (ap (is_listed_read terms.table.revoked name) before)
