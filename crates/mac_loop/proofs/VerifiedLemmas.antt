-- Of which tokens that are verified the identifier is told.
use Rattle.std.proofs.Common.{◌≡◌, ◌∙◌, ℕ, List, take, Bool, true, false, Option, Some, None, Result, Ok, Err, refl, sym, ap}
use Rattle.std.specs.Prelude.{◌==◌, if◌then◌else◌}
use Rattle.mac_decide.proofs.AnswerLemmas.{answer_of-asked}
use Rattle.mac_decide.proofs.RevocationLemmas.{kept-refused}
use Rattle.mac_decide.proofs.VerdictLemmas.{verdict_of-is}
use Rattle.mac_decide.specs.Answer.{answer_of, keyed, keys_of, refused, timed, told, unless_revoked, verdict_reply, verify_reply}
use Rattle.mac_decide.specs.Minted.{Minted}
use Rattle.mac_decide.specs.Reading.{verdict_of}
use Rattle.mac_decide.specs.Revocation.{is_listed_read}
use Rattle.mac_decide.specs.Terms.{Terms}
use Rattle.mac_decide.specs.Verdict.{IsVerdict}
use Rattle.mac_decide.specs.declared.context.Context.{Context}
use Rattle.mac_decide.specs.declared.verdict.Verdict.{Verdict}
use Rattle.mac_decide.specs.declared.verdict.Verdict.TheVariants.{Granted, BadSignature, Unsatisfied}
use Rattle.mac_host.specs.Exchange.{noted_identifier}
use Rattle.mac_host.specs.declared.exchange.TheConstants.{IDENTIFIER_NOTED}
use Rattle.mac_keys.specs.Keys.{listed}
use Rattle.mac_keys.specs.declared.keys.Keys.{Keys}
use Rattle.mac_token.specs.RawToken.{TokenParts}
use Rattle.mac_token.specs.Read.{read_of}
use Rattle.mac_token.specs.declared.fault.TokenRefusal.{TokenRefusal}
use Rattle.mac_token.specs.declared.fault.TokenRefusal.TheVariants as token
use Rattle.mac_wire.proofs.Asking.{request_of-asks}
use Rattle.mac_wire.specs.Reply.{kind_of, refusal_code}
use Rattle.mac_wire.specs.Request.{Asked, Asks, key_of, mint, attenuate, verify, verify_now}
use Rattle.mac_wire.specs.declared.arrival.Arrival.TheVariants.{Payload}
use Rattle.mac_wire.specs.declared.reply.Refusal.{Refusal}
use Rattle.mac_wire.specs.declared.reply.Refusal.TheVariants as refusal
use Rattle.mac_wire.specs.declared.reply.Reply.{Reply}
use Rattle.mac_wire.specs.declared.reply.ReplyKind.{ReplyKind}
use Rattle.mac_wire.specs.declared.reply.ReplyKind.TheVariants as kind
use Rattle.mac_wire.specs.declared.request.Grant.{Grant}
use Rattle.mac_wire.specs.declared.request.Grant.TheVariants as grant
use Rattle.mac_loop.specs.Verified.{IsSigned, identifier_verified, token_of, verified_by}

-- what is told of a reply that may be about a token that was taken back
abbrev told_of : Option (List ℕ) → Bool → Reply → Option (List ℕ)
told_of asked b r = verified_by asked (kind_of (unless_revoked b r))

-- ---- what is told is signed

-- a refusal that is told where there are no keys, no moment or no token
by_refusal : (asked : Option (List ℕ)) (b : Bool) (why : Refusal) (i : List ℕ) → told_of asked b (refused why) ≡ Some i → verified_by asked (kind_of (refused why)) ≡ Some i
by_refusal asked b why i e = sym (ap (λ r. verified_by asked (kind_of r)) (kept-refused b why)) ∙ e

by_verdict : (g : Grant) (t : TokenParts) (keys : List (List ℕ)) (x : Context) (asked : Option (List ℕ)) (b : Bool) (v : Verdict) (i : List ℕ) → IsVerdict keys t x v
    → told_of asked b (verdict_reply g t v) ≡ Some i → Minted keys t × (asked ≡ Some i)
by_verdict grant.Bare t keys x asked false Granted i is e = (is.minted, e)
by_verdict grant.Bare t keys x asked true Granted i is e = (is.minted, e)
by_verdict grant.Owner t keys x asked false Granted i is e = (is.minted, e)
by_verdict grant.Owner t keys x asked true Granted i is e = (is.minted, e)
by_verdict g t keys x asked b BadSignature i is e = let bad = by_refusal asked b refusal.BadSignature i e in absurd (cc)
by_verdict g t keys x asked false (Unsatisfied index) i is e = (is.0, e)
by_verdict g t keys x asked true (Unsatisfied index) i is e = (is.0, e)

-- what is known of a token whose identifier is told
abbrev IsHeld : Keys → Result TokenParts TokenRefusal → Option (List ℕ) → List ℕ → Type 0
IsHeld keys read asked i = (t : TokenParts) × (read ≡ Ok t) × Minted (listed keys) t × (asked ≡ Some i)

by_read : (g : Grant) (keys : Keys) (x : Context) (asked : Option (List ℕ)) (b : Bool) (read : Result TokenParts TokenRefusal) (i : List ℕ)
    → told_of asked b (told read (λ t. verdict_reply g t (verdict_of (listed keys) t x))) ≡ Some i → IsHeld keys read asked i
by_read g keys x asked b (Ok t) i e =
    let both = by_verdict g t (listed keys) x asked b (verdict_of (listed keys) t x) i (verdict_of-is (listed keys) t x) e in
    (t, refl, both.0, both.1)
by_read g keys x asked b (Err token.Transport) i e = let bad = by_refusal asked b refusal.Transport i e in absurd (cc)
by_read g keys x asked b (Err token.Malformed) i e = let bad = by_refusal asked b refusal.Malformed i e in absurd (cc)
by_read g keys x asked b (Err token.ThirdParty) i e = let bad = by_refusal asked b refusal.ThirdParty i e in absurd (cc)
by_read g keys x asked b (Err token.Limit) i e = let bad = by_refusal asked b refusal.Limit i e in absurd (cc)
by_read g keys x asked b (Err token.CaveatLocation) i e = let bad = by_refusal asked b refusal.CaveatLocation i e in absurd (cc)

abbrev IsFound : Option Keys → List ℕ → Option (List ℕ) → List ℕ → Type 0
IsFound found bytes asked i = (keys : Keys) × (found ≡ Some keys) × IsHeld keys (read_of bytes) asked i

by_keys : (found : Option Keys) (bytes : List ℕ) (x : Context) (asked : Option (List ℕ)) (b : Bool) (i : List ℕ)
    → told_of asked b (keyed found (verify_reply grant.Bare bytes x)) ≡ Some i → IsFound found bytes asked i
by_keys None bytes x asked b i e = let bad = by_refusal asked b refusal.UnknownKey i e in absurd (cc)
by_keys (Some keys) bytes x asked b i e = (keys, refl, by_read grant.Bare keys x asked b (read_of bytes) i e)

by_clock : (g : Grant) (found : Option Keys) (bytes : List ℕ) (facts : List (List ℕ)) (at : Option ℕ) (asked : Option (List ℕ)) (b : Bool) (i : List ℕ)
    → told_of asked b (keyed found (λ keys. timed at (λ m. verify_reply g bytes (record { moment = m; facts = facts }) keys))) ≡ Some i → IsFound found bytes asked i
by_clock g None bytes facts at asked b i e = let bad = by_refusal asked b refusal.UnknownKey i e in absurd (cc)
by_clock g (Some keys) bytes facts None asked b i e = let bad = by_refusal asked b refusal.NoClock i e in absurd (cc)
by_clock g (Some keys) bytes facts (Some m) asked b i e = (keys, refl, by_read g keys (record { moment = m; facts = facts }) asked b (read_of bytes) i e)

-- the identifier that is noted, of what was read
noted_told : (read : Result TokenParts TokenRefusal) (t : TokenParts) (i : List ℕ) → read ≡ Ok t → noted_identifier read ≡ Some i → i ≡ take IDENTIFIER_NOTED t.identifier
noted_told read t i is e = let both : Some (take IDENTIFIER_NOTED t.identifier) ≡ Some i = sym (ap noted_identifier is) ∙ e in cc

-- the identifier that a payload brings is that of its request
brought : (payload : List ℕ) (q : Asked) (bytes : List ℕ) → Asks payload q → token_of q ≡ Some bytes → identifier_verified payload ≡ noted_identifier (read_of bytes)
brought payload q bytes asks is = rw (request_of-asks payload q asks, is) refl

not_brought : (payload : List ℕ) (q : Asked) → Asks payload q → token_of q ≡ None → identifier_verified payload ≡ None
not_brought payload q asks is = rw (request_of-asks payload q asks, is) refl

if_nothing : (b : Bool) (i : List ℕ) → ¬ ((if b then None else None) ≡ Some i)
if_nothing true i e = absurd (cc)
if_nothing false i e = absurd (cc)

-- where no identifier is noted none is told
nothing_told : (told : ReplyKind) (i : List ℕ) → ¬ (verified_by None told ≡ Some i)
nothing_told kind.Granted i e = absurd (cc)
nothing_told kind.Token i e = absurd (cc)
nothing_told kind.Unsatisfied i e = absurd (cc)
nothing_told (kind.Refused code) i e = if_nothing (code == refusal_code refusal.Revoked) i e

signed_of : (terms : Terms) (q : Asked) (i name bytes : List ℕ) (asked : Option (List ℕ)) → key_of q ≡ Some name → token_of q ≡ Some bytes → asked ≡ noted_identifier (read_of bytes)
    → IsFound (keys_of terms name) bytes asked i → IsSigned terms q i
signed_of terms q i name bytes asked named carries noted (keys, has, (t, is, minted, e)) = record {
  name = name;
  is_named = named;
  keys = keys;
  has_keys = has;
  bytes = bytes;
  is_brought = carries;
  token = t;
  is_read = is;
  minted = minted;
  is_told = noted_told (read_of bytes) t i is (sym noted ∙ e);
}

pub told_signed : (terms : Terms) (payload identifier : List ℕ) (q : Asked) → Asks payload q
    → verified_by (identifier_verified payload) (kind_of (answer_of terms (Payload payload))) ≡ Some identifier → IsSigned terms q identifier
told_signed terms payload identifier (mint form name location i caveats) asks e =
    absurd (nothing_told (kind_of (answer_of terms (Payload payload))) identifier (sym (ap (λ a. verified_by a (kind_of (answer_of terms (Payload payload)))) (not_brought payload (mint form name location i caveats) asks refl)) ∙ e))
told_signed terms payload identifier (attenuate form t caveats) asks e =
    absurd (nothing_told (kind_of (answer_of terms (Payload payload))) identifier (sym (ap (λ a. verified_by a (kind_of (answer_of terms (Payload payload)))) (not_brought payload (attenuate form t caveats) asks refl)) ∙ e))
told_signed terms payload identifier (verify name bytes moment facts) asks e =
    let q = verify name bytes moment facts in
    let asked = identifier_verified payload in
    let answered = ap (λ r. verified_by asked (kind_of r)) (answer_of-asked terms payload q asks) in
    signed_of terms q identifier name bytes asked refl refl (brought payload q bytes asks refl)
    (by_keys (keys_of terms name) bytes (record { moment = moment; facts = facts }) asked (is_listed_read terms.table.revoked name (read_of bytes)) identifier (sym answered ∙ e))
told_signed terms payload identifier (verify_now g name bytes facts) asks e =
    let q = verify_now g name bytes facts in
    let asked = identifier_verified payload in
    let answered = ap (λ r. verified_by asked (kind_of r)) (answer_of-asked terms payload q asks) in
    signed_of terms q identifier name bytes asked refl refl (brought payload q bytes asks refl)
    (by_clock g (keys_of terms name) bytes facts terms.moment asked (is_listed_read terms.table.revoked name (read_of bytes)) identifier (sym answered ∙ e))

-- ---- what is signed is told

of_verdict : (g : Grant) (t : TokenParts) (keys : List (List ℕ)) (x : Context) (asked : Option (List ℕ)) (b : Bool) (v : Verdict) → IsVerdict keys t x v → Minted keys t
    → told_of asked b (verdict_reply g t v) ≡ asked
of_verdict grant.Bare t keys x asked false Granted is minted = refl
of_verdict grant.Bare t keys x asked true Granted is minted = refl
of_verdict grant.Owner t keys x asked false Granted is minted = refl
of_verdict grant.Owner t keys x asked true Granted is minted = refl
of_verdict g t keys x asked b BadSignature is minted = absurd (is minted)
of_verdict g t keys x asked false (Unsatisfied index) is minted = refl
of_verdict g t keys x asked true (Unsatisfied index) is minted = refl

of_read : (g : Grant) (keys : Keys) (x : Context) (asked : Option (List ℕ)) (b : Bool) (read : Result TokenParts TokenRefusal) (t : TokenParts) → read ≡ Ok t → Minted (listed keys) t
    → told_of asked b (told read (λ u. verdict_reply g u (verdict_of (listed keys) u x))) ≡ asked
of_read g keys x asked b read t is minted =
    ap (λ (r : Result TokenParts TokenRefusal). told_of asked b (told r (λ u. verdict_reply g u (verdict_of (listed keys) u x)))) is
    ∙ of_verdict g t (listed keys) x asked b (verdict_of (listed keys) t x) (verdict_of-is (listed keys) t x) minted

pub signed_then : (terms : Terms) (payload name bytes : List ℕ) (moment : ℕ) (facts : List (List ℕ)) (keys : Keys) (t : TokenParts)
    → Asks payload (verify name bytes moment facts) → keys_of terms name ≡ Some keys → read_of bytes ≡ Ok t → Minted (listed keys) t
    → verified_by (identifier_verified payload) (kind_of (answer_of terms (Payload payload))) ≡ Some (take IDENTIFIER_NOTED t.identifier)
signed_then terms payload name bytes moment facts keys t asks found read minted =
    let asked = identifier_verified payload in
    let b = is_listed_read terms.table.revoked name (read_of bytes) in
    let x : Context = record { moment = moment; facts = facts } in
    ap (λ r. verified_by asked (kind_of r)) (answer_of-asked terms payload (verify name bytes moment facts) asks)
    ∙ ap (λ (f : Option Keys). told_of asked b (keyed f (verify_reply grant.Bare bytes x))) found
    ∙ of_read grant.Bare keys x asked b (read_of bytes) t read minted
    ∙ brought payload (verify name bytes moment facts) bytes asks refl ∙ ap noted_identifier read

pub signed_now : (terms : Terms) (payload name bytes : List ℕ) (g : Grant) (moment : ℕ) (facts : List (List ℕ)) (keys : Keys) (t : TokenParts)
    → Asks payload (verify_now g name bytes facts) → terms.moment ≡ Some moment → keys_of terms name ≡ Some keys → read_of bytes ≡ Ok t → Minted (listed keys) t
    → verified_by (identifier_verified payload) (kind_of (answer_of terms (Payload payload))) ≡ Some (take IDENTIFIER_NOTED t.identifier)
signed_now terms payload name bytes g moment facts keys t asks at found read minted =
    let asked = identifier_verified payload in
    let b = is_listed_read terms.table.revoked name (read_of bytes) in
    let tell : Option ℕ → Keys → Reply = λ m k. timed m (λ n. verify_reply g bytes (record { moment = n; facts = facts }) k) in
    ap (λ r. verified_by asked (kind_of r)) (answer_of-asked terms payload (verify_now g name bytes facts) asks)
    ∙ ap (λ (f : Option Keys). told_of asked b (keyed f (tell terms.moment))) found
    ∙ ap (λ (m : Option ℕ). told_of asked b (tell m keys)) at
    ∙ of_read g keys (record { moment = moment; facts = facts }) asked b (read_of bytes) t read minted
    ∙ brought payload (verify_now g name bytes facts) bytes asks refl ∙ ap noted_identifier read
