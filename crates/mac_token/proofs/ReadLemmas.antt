-- What bytes carry, and the bare form in it: what is read is spelled so, and what is spelled is read.
use Rattle.std.proofs.Common.{◌≡◌, ◌≢◌, ℕ, Bool, true, false, cond, List, [], ◌∷◌, Option, Some, None, Err, refl, sym, ap, subst, ◌∙◌, ◌⊎◌, inl, inr, arith}
use Rattle.std.specs.Prelude.{◌==◌, ◌||◌}
use Rattle.std.specs.Bool.{Decides}
use Rattle.std.proofs.lemmas.Bool.{eqb-true, eq-eqb, ne_eqb, both_ways}
use Rattle.std.proofs.lemmas.Bool.Decides.{Decides-or}
use Rattle.std.proofs.lemmas.Option.{same_Some}
use Rattle.base64.specs.GeneralPurpose.{IsBytes}
use Rattle.mac_token.specs.declared.fault.TokenFault.{TokenFault}
use Rattle.mac_token.specs.declared.fault.TokenFault.TheVariants.{Refused, Memory}
use Rattle.mac_token.specs.RawToken.{RawParts}
use Rattle.mac_token.specs.Answers.{IsFault}
use Rattle.mac_token.specs.Reads.{Fails}
use Rattle.mac_token.specs.Base64Reading.{base64_bytes}
use Rattle.mac_token.specs.V1Reading.{v1_of}
use Rattle.mac_token.specs.V2Whole.{v2_of}
use Rattle.mac_token.specs.JsonReading.{json_text_of}
use Rattle.mac_token.specs.Spells.{BeginsWith, CallsForBare, IsBare, Carries, Spells}
use Rattle.mac_token.specs.Read.{calls_for_bare, bare_bytes, bare_of, or_malformed}
use Rattle.mac_token.proofs.Base64Read.{base64_takes, base64_again}
use Rattle.mac_token.proofs.V1Laws.{v1_takes, v1_again}
use Rattle.mac_token.proofs.V2Whole.{v2_takes, v2_again}
use Rattle.mac_token.proofs.JsonRead.{json_takes, json_again}

-- ---- the first byte

abbrev some_byte : ℕ → Option ℕ
some_byte b = Some b

first_is : (b k : ℕ) (bytes : List ℕ) → BeginsWith k (b ∷ bytes) → b ≡ k
first_is b k bytes e = same_Some b k e

begins : (b k : ℕ) (bytes : List ℕ) → Decides (b == k) (BeginsWith k (b ∷ bytes))
begins b k bytes = (λ e. ap some_byte (eqb-true b k e), λ e. eq-eqb b k (first_is b k bytes e))

-- whether the first byte calls for a bare form
pub calls : (b : ℕ) (bytes : List ℕ) → Decides (calls_for_bare b) (CallsForBare (b ∷ bytes))
calls b bytes = Decides-or (b == 48) (b == 2 || b == 123) (begins b 48 bytes) (Decides-or (b == 2) (b == 123) (begins b 2 bytes) (begins b 123 bytes))

nothing_calls : ¬ CallsForBare []
nothing_calls (inl e) = absurd cc
nothing_calls (inr (inl e)) = absurd cc
nothing_calls (inr (inr e)) = absurd cc

-- ---- a bare form

-- one of three readings, by the first byte
abbrev by_first : Bool → Bool → Bool → Option RawParts → Option RawParts → Option RawParts → Option RawParts
by_first v1 v2 json a b c = cond v1 a (cond v2 b (cond json c None))

bare_cases : (v1 v2 json : Bool) (a b c : Option RawParts) (r : RawParts) → by_first v1 v2 json a b c ≡ Some r
    → ((v1 ≡ true) × (a ≡ Some r)) ⊎ ((v2 ≡ true) × (b ≡ Some r)) ⊎ ((json ≡ true) × (c ≡ Some r))
bare_cases true v2 json a b c r e = inl (refl, e)
bare_cases false true json a b c r e = inr (inl (refl, e))
bare_cases false false true a b c r e = inr (inr (refl, e))
bare_cases false false false a b c r e = absurd cc

pub bare_takes : (bytes : List ℕ) (r : RawParts) → IsBytes bytes → bare_of bytes ≡ Some r → IsBare bytes r
unfolding bare_of
bare_takes [] r fits e = absurd cc
bare_takes (b ∷ bytes) r fits e =
    elim (bare_cases (b == 48) (b == 2) (b == 123) (v1_of (b ∷ bytes)) (v2_of (b ∷ bytes)) (json_text_of (b ∷ bytes)) r e) [
      | inl (first, read) ↦ inl ((begins b 48 bytes).0 first, v1_takes (b ∷ bytes) r read)
      | inr (inl (first, read)) ↦ inr (inl ((begins b 2 bytes).0 first, v2_takes (b ∷ bytes) r fits read))
      | inr (inr (first, read)) ↦ inr (inr ((begins b 123 bytes).0 first, json_takes (b ∷ bytes) r read))
    ]

other : (a b : ℕ) (k : ℕ) (bytes : List ℕ) → BeginsWith a (k ∷ bytes) → (a ≡ b → ⊥) → (k == b) ≡ false
other a b k bytes begins_a differ = ne_eqb k b (λ e. differ (sym (first_is k a bytes begins_a) ∙ e))

pub bare_again : (bytes : List ℕ) (r : RawParts) → IsBare bytes r → bare_of bytes ≡ Some r
unfolding bare_of
bare_again [] r (inl (first, spelled)) = absurd cc
bare_again [] r (inr (inl (first, spelled))) = absurd cc
bare_again [] r (inr (inr (first, spelled))) = absurd cc
bare_again (b ∷ bytes) r (inl (first, spelled)) = rw ((begins b 48 bytes).1 first) (v1_again (b ∷ bytes) r spelled)
bare_again (b ∷ bytes) r (inr (inl (first, spelled))) =
    rw (other 2 48 b bytes first (λ e. omega arith), (begins b 2 bytes).1 first) (v2_again (b ∷ bytes) r spelled)
bare_again (b ∷ bytes) r (inr (inr (first, spelled))) =
    rw (other 123 48 b bytes first (λ e. omega arith), other 123 2 b bytes first (λ e. omega arith), (begins b 123 bytes).1 first) (json_again (b ∷ bytes) r spelled)

-- ---- what is carried

abbrev bare_bytes_by : Bool → List ℕ → Option (List ℕ)
bare_bytes_by direct bytes = cond direct (Some bytes) (base64_bytes bytes)

bare_bytes_takes_by : (direct : Bool) (bytes bare : List ℕ) → Decides direct (CallsForBare bytes) → bytes ≢ [] → bare_bytes_by direct bytes ≡ Some bare → Carries bytes bare
bare_bytes_takes_by true bytes bare decides some e = inl (decides.0 refl, sym (same_Some bytes bare e))
bare_bytes_takes_by false bytes bare decides some e = inr ((λ call. both_ways false refl (decides.1 call)), some, base64_takes bytes bare e)

pub bare_bytes_takes : (bytes bare : List ℕ) → bare_bytes bytes ≡ Some bare → Carries bytes bare
unfolding bare_bytes
bare_bytes_takes [] bare e = absurd cc
bare_bytes_takes (b ∷ bytes) bare e = bare_bytes_takes_by (calls_for_bare b) (b ∷ bytes) bare (calls b bytes) (λ none. cc) e

bare_bytes_again_by : (direct : Bool) (bytes bare : List ℕ) → Decides direct (CallsForBare bytes) → Carries bytes bare → bare_bytes_by direct bytes ≡ Some bare
bare_bytes_again_by true bytes bare decides (inl (call, same)) = ap (λ (x : List ℕ). Some x) (sym same)
bare_bytes_again_by true bytes bare decides (inr (no_call, some, spelled)) = absurd (no_call (decides.0 refl))
bare_bytes_again_by false bytes bare decides (inl (call, same)) = absurd (both_ways false refl (decides.1 call))
bare_bytes_again_by false bytes bare decides (inr (no_call, some, spelled)) = base64_again bytes bare spelled

pub bare_bytes_again : (bytes bare : List ℕ) → Carries bytes bare → bare_bytes bytes ≡ Some bare
unfolding bare_bytes
bare_bytes_again [] bare (inl (call, same)) = absurd (nothing_calls call)
bare_bytes_again [] bare (inr (no_call, some, spelled)) = absurd (some refl)
bare_bytes_again (b ∷ bytes) bare carries = bare_bytes_again_by (calls_for_bare b) (b ∷ bytes) bare (calls b bytes) carries

-- what is carried is bytes
pub bare_bytes_bytes : (bytes bare : List ℕ) → IsBytes bytes → Carries bytes bare → IsBytes bare
bare_bytes_bytes bytes bare fits (inl (call, same)) = subst IsBytes (sym same) fits
bare_bytes_bytes bytes bare fits (inr (no_call, some, spelled)) = spelled.0

-- ---- both

-- bytes carry one list of bytes at most
pub carries_one : (bytes a b : List ℕ) → Carries bytes a → Carries bytes b → a ≡ b
carries_one bytes a b at_a at_b = same_Some a b (sym (bare_bytes_again bytes a at_a) ∙ bare_bytes_again bytes b at_b)

-- bytes spell one raw token at most
pub spells_one : (bytes : List ℕ) (r s : RawParts) → Spells bytes r → Spells bytes s → r ≡ s
spells_one bytes r s (a, carries_a, is_r) (b, carries_b, is_s) =
    let same = carries_one bytes a b carries_a carries_b in
    same_Some r s (sym (bare_again a r is_r) ∙ ap bare_of same ∙ bare_again b s is_s)

-- ---- what readers answer

-- where a reading gives nothing, the bytes are malformed
pub told_from_fails : (fault : TokenFault) (reading : Option RawParts) → Fails fault reading → IsFault fault (or_malformed reading)
told_from_fails (Refused reason) reading fails = ap or_malformed fails.1 ∙ ap Err (sym fails.0)
told_from_fails Memory reading fails = tt
