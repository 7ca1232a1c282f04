-- When a verify is granted.
use Rattle.std.proofs.Common.{◌≡◌, ◌↔◌, ℕ, List, Option, Some, None, Result, Ok, Err, IfOk, Bool, false, refl, sym, ◌∙◌}
use Rattle.mac_keys.specs.Keys.{listed}
use Rattle.mac_keys.specs.declared.keys.Keys.{Keys}
use Rattle.mac_token.specs.RawToken.{TokenParts}
use Rattle.mac_token.specs.Read.{read_of}
use Rattle.mac_token.specs.declared.fault.TokenRefusal.{TokenRefusal}
use Rattle.mac_wire.specs.Request.{Asked, Asks, verify}
use Rattle.mac_wire.specs.declared.arrival.Arrival.{Arrival}
use Rattle.mac_wire.specs.declared.arrival.Arrival.TheVariants.{Payload}
use Rattle.mac_wire.specs.declared.request.Grant.TheVariants as grant
use Rattle.mac_wire.specs.declared.reply.Reply.{Reply}
use Rattle.mac_wire.specs.declared.reply.Reply.TheVariants as reply
use Rattle.mac_wire.proofs.Asking.{request_of-asks, key_name_of-asks}
use Rattle.mac_decide.specs.Answer.{told, keyed, verdict_reply, verify_reply, request_reply, reply_of, keys_of, answer_of, answer_to, asked_basis, IsGranted}
use Rattle.mac_decide.specs.Reading.{verdict_of}
use Rattle.mac_decide.specs.Revocation.{is_listed_read}
use Rattle.mac_decide.specs.Terms.{Terms}
use Rattle.mac_decide.specs.declared.context.Context.{Context}
use Rattle.mac_decide.specs.declared.job.Basis.{Basis}
use Rattle.mac_decide.specs.declared.verdict.Verdict.{Verdict}
use Rattle.mac_decide.specs.declared.verdict.Verdict.TheVariants.{Granted, BadSignature, Unsatisfied}
use Rattle.mac_decide.proofs.RevocationLemmas.{kept-granted}
use Rattle.mac_decide.proofs.VerdictLemmas.{verdict_of-is, one_verdict}

-- only the verdict that grants is told so
pub granted-verdict : (t : TokenParts) (v : Verdict) → verdict_reply grant.Bare t v ≡ reply.Granted → v ≡ Granted
granted-verdict t Granted e = refl
granted-verdict t BadSignature e = absurd (cc)
granted-verdict t (Unsatisfied index) e = absurd (cc)

-- what is granted was read and accepted
granted-read : (keys : Keys) (bytes : List ℕ) (x : Context) (r : Result TokenParts TokenRefusal) → read_of bytes ≡ r → told r (λ t. verdict_reply grant.Bare t (verdict_of (listed keys) t x)) ≡ reply.Granted → IsGranted (Some keys) bytes x
granted-read keys bytes x (Ok t) read e =
    let verdict : verdict_of (listed keys) t x ≡ Granted = granted-verdict t (verdict_of (listed keys) t x) e in
    record { named = keys; has_keys = refl; token = t; is_read = read; accepted = rw verdict at (verdict_of-is (listed keys) t x) }
granted-read keys bytes x (Err f) read e = absurd (cc)

granted-keyed : (bytes : List ℕ) (x : Context) (found : Option Keys) → keyed found (verify_reply grant.Bare bytes x) ≡ reply.Granted → IsGranted found bytes x
granted-keyed bytes x None e = absurd (cc)
granted-keyed bytes x (Some keys) e = granted-read keys bytes x (read_of bytes) refl e

-- the keys grant it, and it was not taken back
abbrev pub IsKept : Option Keys → Bool → List ℕ → Context → Type 0
IsKept found revoked bytes x = IsGranted found bytes x × (revoked ≡ false)

pub granted-request : (name bytes : List ℕ) (moment : ℕ) (facts : List (List ℕ)) (basis : Basis) → request_reply (verify name bytes moment facts) basis ≡ reply.Granted → IsKept basis.keys basis.is_revoked bytes (record { moment = moment; facts = facts })
granted-request name bytes moment facts basis e =
    let x : Context = record { moment = moment; facts = facts } in
    let kept = kept-granted basis.is_revoked (keyed basis.keys (verify_reply grant.Bare bytes x)) e in
    (granted-keyed bytes x basis.keys kept.0, kept.1)

-- what is accepted is granted
pub request-granted : (name bytes : List ℕ) (moment : ℕ) (facts : List (List ℕ)) (basis : Basis) → IsKept basis.keys basis.is_revoked bytes (record { moment = moment; facts = facts }) → request_reply (verify name bytes moment facts) basis ≡ reply.Granted
request-granted name bytes moment facts basis (g, kept) =
    let x : Context = record { moment = moment; facts = facts } in
    let verdict = one_verdict (listed g.named) g.token x (verdict_of (listed g.named) g.token x) Granted (verdict_of-is (listed g.named) g.token x) g.accepted in
    rw (kept, g.has_keys, g.is_read, verdict)

-- a verify is granted exactly where the keys that it names grant its token, and it was not taken back
pub reply-granted : (payload name bytes : List ℕ) (moment : ℕ) (facts : List (List ℕ)) (basis : Basis) → Asks payload (verify name bytes moment facts) → (reply_of (Payload payload) basis ≡ reply.Granted) ↔ IsKept basis.keys basis.is_revoked bytes (record { moment = moment; facts = facts })
unfolding reply_of
reply-granted payload name bytes moment facts basis asks =
    let request = request_of-asks payload (verify name bytes moment facts) asks in
    rw request (granted-request name bytes moment facts basis, request-granted name bytes moment facts basis)

-- the reply to what a payload asks
pub answer_of-asked : (terms : Terms) (payload : List ℕ) (asked : Asked) → Asks payload asked → answer_of terms (Payload payload) ≡ answer_to terms asked
unfolding answer_of reply_of
answer_of-asked terms payload asked asks = rw (request_of-asks payload asked asks, key_name_of-asks payload asked asks) refl

-- the same under its terms
pub answer-granted : (terms : Terms) (payload name bytes : List ℕ) (moment : ℕ) (facts : List (List ℕ)) → Asks payload (verify name bytes moment facts)
    → (answer_of terms (Payload payload) ≡ reply.Granted) ↔ IsKept (keys_of terms name) (is_listed_read terms.table.revoked name (read_of bytes)) bytes (record { moment = moment; facts = facts })
answer-granted terms payload name bytes moment facts asks =
    let request = verify name bytes moment facts in
    let same = answer_of-asked terms payload request asks in (
      (λ e. granted-request name bytes moment facts (asked_basis terms request) (sym same ∙ e)),
      (λ kept. same ∙ request-granted name bytes moment facts (asked_basis terms request) kept),
    )

-- the reply that a call gives
pub result-granted : {E : Type 0} (result : Result Reply E) (arrival : Arrival) (basis : Basis) → IfOk result (λ r. r ≡ reply_of arrival basis) → (payload name bytes : List ℕ) (moment : ℕ) (facts : List (List ℕ)) → arrival ≡ Payload payload → Asks payload (verify name bytes moment facts) → IfOk result (λ r. (r ≡ reply.Granted) ↔ IsKept basis.keys basis.is_revoked bytes (record { moment = moment; facts = facts }))
result-granted (Ok r) arrival basis is payload name bytes moment facts same asks =
    rw (is, same) (reply-granted payload name bytes moment facts basis asks)
result-granted (Err e) arrival basis is payload name bytes moment facts same asks = tt
