-- When a caveat is satisfied.
use Rattle.std.proofs.Common.{◌≡◌, ◌↔◌, ℕ, ◌<◌, ◌^◌, ℤ, pos, negsuc, to_z, of_z, unsigned_abs, ◌<ℤ◌, ◌≤ℤ◌, FitsSigned, w64, List, ◌∷◌, codes, true, IsTrue, arith, refl, subst}
use Rattle.std.specs.List.{list_any, Contains}
use Rattle.std.specs.Str.{bytes_eq}
use Rattle.std.specs.Cmp.Lexicographic.{nat_list_eq_equiv}
use Rattle.std.specs.Int.{w128}
use Rattle.std.specs.Int.Signed.{le_z, lt_z}
use Rattle.std.proofs.lemmas.Bool.Decides.{nat_tests}
use Rattle.std.proofs.lemmas.Int.{fits_signed_from_abs, ints, to_z-of_z}
use Rattle.std.proofs.lemmas.Slice.Eq.{bytes_eq-Decides}
use Rattle.std.proofs.lemmas.List.Elements.{All-head, All-tail}
use Rattle.std.proofs.lemmas.Map.Views.{list_any-from_Contains, Contains-from_any}
use Rattle.mac_decide.specs.Time.{IsTimeLimit, IsLowerBound}
use Rattle.mac_decide.specs.Verdict.{AreAmong, IsBefore, IsSince}
use Rattle.mac_decide.proofs.TimeLemmas.{one_bound}

-- a limit that is known decides whether the moment is before it
pub IsBefore-known : (moment : ℕ) (caveat : List ℕ) (w : ℤ) → IsTimeLimit caveat w → IsBefore moment caveat → pos moment <ℤ w
IsBefore-known moment caveat w known (v, h, below) = rw (one_bound (codes "time < ") caveat w v known h) below

-- and a lower bound whether it has come
pub IsSince-known : (moment : ℕ) (caveat : List ℕ) (w : ℤ) → IsLowerBound caveat w → IsSince moment caveat → w ≤ℤ pos moment
IsSince-known moment caveat w known (v, h, reached) = rw (one_bound (codes "time >= ") caveat w v known h) reached

-- the test that looks for the caveat among the facts
pub Contains-found : (facts : List (List ℕ)) (caveat : List ℕ) → list_any (bytes_eq caveat) facts ≡ true → Contains facts caveat
Contains-found facts caveat e = Contains-from_any (λ x y. (bytes_eq-Decides x y).0) caveat facts e

pub found-Contains : (facts : List (List ℕ)) (caveat : List ℕ) → Contains facts caveat → list_any (bytes_eq caveat) facts ≡ true
found-Contains facts caveat has = list_any-from_Contains nat_list_eq_equiv caveat facts has

-- the first of some facts is one of all, and so are those behind it
pub among-first : (facts ahead others : List (List ℕ)) (fact : List ℕ) → AreAmong ahead facts → ahead ≡ fact ∷ others → Contains facts fact × AreAmong others facts
among-first facts ahead others fact among is =
    let all = subst (λ some. AreAmong some facts) is among in
    (All-head (Contains facts) fact others all, All-tail (Contains facts) fact others all)

-- numbers of 64 bits are what they were in 128
pub wide_moment : (moment : ℕ) → moment < 2 ^ 64 → to_z w128 (of_z w128 (pos moment)) ≡ pos moment
wide_moment moment fits = to_z-of_z w128 (pos moment) (fits_signed_from_abs w128 (pos moment) (omega (arith, fits)))

wide_abs : (bound : ℤ) → FitsSigned w64 bound → unsigned_abs bound < 2 ^ 127
wide_abs (pos n) fits = omega (arith, ints)
wide_abs (negsuc n) fits = omega (arith, ints)

pub wide_bound : (bound : ℤ) → FitsSigned w64 bound → to_z w128 (of_z w128 bound) ≡ bound
wide_bound bound fits = to_z-of_z w128 bound (fits_signed_from_abs w128 bound (wide_abs bound fits))

-- whether a moment is below a limit
pub below-tested : (moment : ℕ) (limit : ℤ) → IsTrue (lt_z (pos moment) limit) ↔ (pos moment <ℤ limit)
below-tested moment (pos k) = ((λ e. grind (arith, nat_tests, ints)), (λ h. grind (arith, nat_tests, ints)))
below-tested moment (negsuc k) = ((λ e. absurd cc), (λ h. absurd (omega (arith, ints))))

-- and whether it has reached a lower bound
pub reached-tested : (bound : ℤ) (moment : ℕ) → IsTrue (le_z bound (pos moment)) ↔ (bound ≤ℤ pos moment)
reached-tested (pos k) moment = ((λ e. grind (arith, nat_tests, ints)), (λ h. grind (arith, nat_tests, ints)))
reached-tested (negsuc k) moment = ((λ e. omega (arith, ints)), (λ h. refl))
