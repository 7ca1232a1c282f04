-- A payload is that of one reply at most.
use Rattle.std.proofs.Common.{◌≡◌, ◌≢◌, ℕ, ◌<◌, ◌≤◌, ◌^◌, List, [], ◌∷◌, ◌++◌, length, refl, sym, ap, ◌∙◌, arith}
use Rattle.std.proofs.lemmas.List.{append-nil}
use Rattle.std.specs.Prelude.{◌==◌, if◌then◌else◌}
use Rattle.std.specs.Int.{w16, from_be_bytes}
use Rattle.std.proofs.lemmas.Nat.{from_be_bytes-to_be_bytes_2}
use Rattle.mac_wire.specs.declared.reply.Refusal.{Refusal}
use Rattle.mac_wire.specs.declared.reply.Refusal.TheVariants as refusal
use Rattle.mac_wire.specs.declared.reply.Reply.{Reply}
use Rattle.mac_wire.specs.declared.reply.Reply.TheVariants as reply
use Rattle.mac_wire.specs.Reply.{refusal_code, IsReply, reply_payload}
use Rattle.mac_wire.specs.Request.{long_field}
use Rattle.mac_wire.specs.Reading.{long_field_at}
use Rattle.mac_wire.proofs.Spelling.{found, some_is, long_again}

head_is : {x y : ℕ} {xs ys : List ℕ} → x ∷ xs ≡ y ∷ ys → x ≡ y
head_is e = cc

tail_is : {x y : ℕ} {xs ys : List ℕ} → x ∷ xs ≡ y ∷ ys → xs ≡ ys
tail_is e = cc

-- the refusal of a number
abbrev refusal_at : ℕ → Refusal
refusal_at n = if n == 16 then refusal.BadRequest else if n == 17 then refusal.FrameTooLong
    else if n == 18 then refusal.UnknownKey else if n == 19 then refusal.Transport
    else if n == 20 then refusal.Malformed else if n == 21 then refusal.ThirdParty
    else if n == 22 then refusal.Limit else if n == 23 then refusal.BadSignature
    else if n == 26 then refusal.CaveatLocation else if n == 27 then refusal.NotAllowed
    else if n == 28 then refusal.NoClock else refusal.Revoked

refusal_at-code : (r : Refusal) → refusal_at (refusal_code r) ≡ r
refusal_at-code refusal.BadRequest = refl
refusal_at-code refusal.FrameTooLong = refl
refusal_at-code refusal.UnknownKey = refl
refusal_at-code refusal.Transport = refl
refusal_at-code refusal.Malformed = refl
refusal_at-code refusal.ThirdParty = refl
refusal_at-code refusal.Limit = refl
refusal_at-code refusal.BadSignature = refl
refusal_at-code refusal.CaveatLocation = refl
refusal_at-code refusal.NotAllowed = refl
refusal_at-code refusal.NoClock = refl
refusal_at-code refusal.Revoked = refl

-- a number is that of one refusal at most
pub one_refusal : (a b : Refusal) → refusal_code a ≡ refusal_code b → a ≡ b
one_refusal a b e = sym (refusal_at-code a) ∙ ap refusal_at e ∙ refusal_at-code b

-- no refusal has the number of another reply
code-high : (r : Refusal) → 16 ≤ refusal_code r
code-high refusal.BadRequest = omega arith
code-high refusal.FrameTooLong = omega arith
code-high refusal.UnknownKey = omega arith
code-high refusal.Transport = omega arith
code-high refusal.Malformed = omega arith
code-high refusal.ThirdParty = omega arith
code-high refusal.Limit = omega arith
code-high refusal.BadSignature = omega arith
code-high refusal.CaveatLocation = omega arith
code-high refusal.NotAllowed = omega arith
code-high refusal.NoClock = omega arith
code-high refusal.Revoked = omega arith

code-no_index : (r : Refusal) → refusal_code r ≢ 24
code-no_index refusal.BadRequest = λ e. omega arith
code-no_index refusal.FrameTooLong = λ e. omega arith
code-no_index refusal.UnknownKey = λ e. omega arith
code-no_index refusal.Transport = λ e. omega arith
code-no_index refusal.Malformed = λ e. omega arith
code-no_index refusal.ThirdParty = λ e. omega arith
code-no_index refusal.Limit = λ e. omega arith
code-no_index refusal.BadSignature = λ e. omega arith
code-no_index refusal.CaveatLocation = λ e. omega arith
code-no_index refusal.NotAllowed = λ e. omega arith
code-no_index refusal.NoClock = λ e. omega arith
code-no_index refusal.Revoked = λ e. omega arith

alone : (field : List ℕ) → length field < 2 ^ 16 → long_field_at (long_field field) ≡ found (field, [])
alone field lt = ap long_field_at (sym (append-nil (long_field field))) ∙ long_again field [] lt

-- two fields, one behind the other, are read again
two_fields : (n m l k : List ℕ) → IsReply (reply.GrantedTo n l) → IsReply (reply.GrantedTo m k)
    → long_field n ++ long_field l ≡ long_field m ++ long_field k → (n ≡ m) × (l ≡ k)
two_fields n m l k ha hb e =
    let first : found (n, long_field l) ≡ found (m, long_field k) =
    sym (long_again n (long_field l) (omega (arith, ha))) ∙ ap long_field_at e ∙ long_again m (long_field k) (omega (arith, hb)) in
    let both = some_is (n, long_field l) (m, long_field k) first in
    let rest : long_field l ≡ long_field k = ap (λ (p : List ℕ × List ℕ). p.1) both in
    let second : long_field_at (long_field l) ≡ long_field_at (long_field k) = ap long_field_at rest in
    let last = some_is (l, []) (k, []) (sym (alone l (omega (arith, ha))) ∙ second ∙ alone k (omega (arith, hb))) in
    (ap (λ (p : List ℕ × List ℕ). p.0) both, ap (λ (p : List ℕ × List ℕ). p.0) last)

pub one_reply : (a b : Reply) → IsReply a → IsReply b → reply_payload a ≡ reply_payload b → a ≡ b
one_reply reply.Granted reply.Granted ha hb e = refl
one_reply reply.Granted (reply.GrantedTo n l) ha hb e = absurd (omega (arith, head_is e))
one_reply reply.Granted (reply.Token t) ha hb e = absurd (omega (arith, head_is e))
one_reply reply.Granted (reply.Refused r) ha hb e = absurd (omega (arith, head_is e, code-high r))
one_reply reply.Granted (reply.Unsatisfied i) ha hb e = absurd (omega (arith, head_is e))
one_reply (reply.GrantedTo n l) reply.Granted ha hb e = absurd (omega (arith, head_is e))
one_reply (reply.GrantedTo n l) (reply.GrantedTo m k) ha hb e =
    let same = two_fields n m l k ha hb (tail_is e) in
    λ i. reply.GrantedTo (same.0 i) (same.1 i)
one_reply (reply.GrantedTo n l) (reply.Token t) ha hb e = absurd (omega (arith, head_is e))
one_reply (reply.GrantedTo n l) (reply.Refused r) ha hb e = absurd (omega (arith, head_is e, code-high r))
one_reply (reply.GrantedTo n l) (reply.Unsatisfied i) ha hb e = absurd (omega (arith, head_is e))
one_reply (reply.Token t) reply.Granted ha hb e = absurd (omega (arith, head_is e))
one_reply (reply.Token t) (reply.GrantedTo n l) ha hb e = absurd (omega (arith, head_is e))
one_reply (reply.Token t) (reply.Token u) ha hb e = ap (λ (xs : List ℕ). reply.Token xs) (tail_is e)
one_reply (reply.Token t) (reply.Refused r) ha hb e = absurd (omega (arith, head_is e, code-high r))
one_reply (reply.Token t) (reply.Unsatisfied i) ha hb e = absurd (omega (arith, head_is e))
one_reply (reply.Refused r) reply.Granted ha hb e = absurd (omega (arith, head_is e, code-high r))
one_reply (reply.Refused r) (reply.GrantedTo n l) ha hb e = absurd (omega (arith, head_is e, code-high r))
one_reply (reply.Refused r) (reply.Token t) ha hb e = absurd (omega (arith, head_is e, code-high r))
one_reply (reply.Refused r) (reply.Refused s) ha hb e = ap (λ (k : Refusal). reply.Refused k) (one_refusal r s (head_is e))
one_reply (reply.Refused r) (reply.Unsatisfied i) ha hb e = absurd (code-no_index r (head_is e))
one_reply (reply.Unsatisfied i) reply.Granted ha hb e = absurd (omega (arith, head_is e))
one_reply (reply.Unsatisfied i) (reply.GrantedTo n l) ha hb e = absurd (omega (arith, head_is e))
one_reply (reply.Unsatisfied i) (reply.Token t) ha hb e = absurd (omega (arith, head_is e))
one_reply (reply.Unsatisfied i) (reply.Refused r) ha hb e = absurd (code-no_index r (sym (head_is e)))
one_reply (reply.Unsatisfied i) (reply.Unsatisfied j) ha hb e =
    ap (λ (k : ℕ). reply.Unsatisfied k) (sym (from_be_bytes-to_be_bytes_2 i ha) ∙ ap (from_be_bytes w16) (tail_is e) ∙ from_be_bytes-to_be_bytes_2 j hb)
