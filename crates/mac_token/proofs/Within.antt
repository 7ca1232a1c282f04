-- The test of the limits.
use Rattle.std.proofs.Common.{◌≡◌, ℕ, ◌≤◌, Bool, true, false, ◌&&◌, cond, List, map, length, Ok, Err, refl, ◌+◌, ◌-◌, ◌++◌, length-append, arith, subst}
use Rattle.std.specs.Prelude.{nat_le}
use Rattle.std.specs.List.{list_all}
use Rattle.std.specs.Bool.{Decides}
use Rattle.std.proofs.lemmas.Bool.{leb-true, le-leb}
use Rattle.std.proofs.lemmas.Bool.Decides.{Decides-and, Decides-like, Decides-by_and}
use Rattle.std.proofs.lemmas.List.{get_or-append-add}
use Rattle.std.proofs.lemmas.List.Elements.{All-append}
use Rattle.std.proofs.lemmas.List.Folds.{list_all-map}
use Rattle.mac_token.specs.declared.limits.TheConstants.{LOCATION_MAX, IDENTIFIER_MAX, CAVEAT_MAX, CAVEATS_MAX}
use Rattle.mac_token.specs.declared.fault.TokenRefusal.TheVariants.{Limit}
use Rattle.mac_token.specs.RawToken.{CaveatParts, TokenParts}
use Rattle.mac_token.specs.Limits.{IsWithinLimits, PartsFit, AreShort, is_within, token_or_limit}

at_most : (a b : ℕ) → Decides (nat_le a b) (a ≤ b)
at_most a b = (leb-true a b, le-leb a b)

are_short : (caveats : List (List ℕ)) → Decides (list_all (λ caveat. nat_le (length caveat) CAVEAT_MAX) caveats) (AreShort caveats)
are_short caveats =
    Decides-by_and (λ (caveat : List ℕ). nat_le (length caveat) CAVEAT_MAX) (λ caveat. length caveat ≤ CAVEAT_MAX) (list_all (λ caveat. nat_le (length caveat) CAVEAT_MAX))
    (λ caveat. at_most (length caveat) CAVEAT_MAX) refl (λ caveat caveats. refl) caveats

-- the test holds exactly within the limits
pub is_within-Decides : (t : TokenParts) → Decides (is_within t) (IsWithinLimits t)
unfolding is_within
is_within-Decides t =
    let location = nat_le (length t.location) LOCATION_MAX in
    let identifier = nat_le (length t.identifier) IDENTIFIER_MAX in
    let count = nat_le (length t.caveats) CAVEATS_MAX in
    let each = list_all (λ caveat. nat_le (length caveat) CAVEAT_MAX) t.caveats in
    let two = Decides-and location identifier (at_most _ _) (at_most _ _) in
    let three = Decides-and (location && identifier) count two (at_most _ _) in
    let all = Decides-and (location && identifier && count) each three (are_short t.caveats) in
    Decides-like (location && identifier && count && each)
    (λ p. record { location = p.0.0.0; identifier = p.0.0.1; count = p.0.1; each = p.1 })
    (λ (w : IsWithinLimits t). (((w.location, w.identifier), w.count), w.each)) all

-- within the limits a token is taken, else refused
pub token_or_limit-Ok : (t : TokenParts) → IsWithinLimits t → token_or_limit t ≡ Ok t
token_or_limit-Ok t w = rw ((is_within-Decides t).1 w) refl

pub token_or_limit-Err : (t : TokenParts) → ¬ (IsWithinLimits t) → token_or_limit t ≡ Err Limit
token_or_limit-Err t passes = refused (is_within t) (is_within-Decides t).0
  where
    refused : (test : Bool) → (test ≡ true → IsWithinLimits t) → cond test (Ok t) (Err Limit) ≡ Err Limit
    refused true holds = absurd (passes (holds refl))
    refused false holds = refl

-- more caveats fit where their number and each of them does
pub fit_more : (location identifier : List ℕ) (caveats added : List (List ℕ)) → PartsFit location identifier caveats → length added ≤ CAVEATS_MAX - length caveats → AreShort added
    → PartsFit location identifier (caveats ++ added)
fit_more location identifier caveats added fit few short = record {
  location = fit.location;
  identifier = fit.identifier;
  count = omega (arith, fit.count, few, length-append caveats added);
  each = All-append (λ caveat. length caveat ≤ CAVEAT_MAX) caveats added fit.each short;
}

-- what does not fit
pub fit_few : (location identifier : List ℕ) (caveats added : List (List ℕ)) → PartsFit location identifier (caveats ++ added) → length added ≤ CAVEATS_MAX - length caveats
fit_few location identifier caveats added fit = omega (arith, fit.count, length-append caveats added)

pub fit_short : (location identifier : List ℕ) (caveats added : List (List ℕ)) → PartsFit location identifier (caveats ++ added) → AreShort added
fit_short location identifier caveats added fit = λ k d below.
    let at = fit.each (length caveats + k) d (omega (arith, length-append caveats added)) in
    subst (λ (c : List ℕ). length c ≤ CAVEAT_MAX) (get_or-append-add caveats added k d) at

-- the test of caveats by their bytes
pub short_ids : (caveats : List CaveatParts) → Decides (list_all (λ c. nat_le (length c.id) CAVEAT_MAX) caveats) (AreShort (map (λ c. c.id) caveats))
short_ids caveats =
    subst (λ (b : Bool). Decides b (AreShort (map (λ c. c.id) caveats)))
    (list_all-map (λ (caveat : List ℕ). nat_le (length caveat) CAVEAT_MAX) (λ (c : CaveatParts). c.id) caveats) (are_short (map (λ c. c.id) caveats))
