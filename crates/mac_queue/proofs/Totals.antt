-- Totals over the accounts of all passes.
use Rattle.std.proofs.Common.{◌≡◌, ℕ, zero, suc, ◌+◌, ◌*◌, ◌≤◌, List, [], ◌∷◌, length, set, sym, refl, ap, arith, map}
use Rattle.std.proofs.lemmas.List.Sums.{sum_by-cons}
use Rattle.std.specs.List.{sum_by}
use mathlib.Core.Option.{some, some-injective, some-ne-none}
use lib.ListN.{get_elem?}

module _ {A : Type 0} where
  -- the total after a change of one
  pub total_set : (f : A → ℕ) (xs : List A) (i : ℕ) (v w : A) → get_elem? xs i ≡ some v → sum_by f (set xs i w) + f v ≡ sum_by f xs + f w
  total_set f [] i v w at = absurd (some-ne-none v (sym at))
  total_set f (x ∷ xs) zero v w at =
      let same : x ≡ v = some-injective x v at in
      omega (arith, sum_by-cons f x xs, sum_by-cons f w xs, ap f same)
  total_set f (x ∷ xs) (suc i) v w at =
      omega (arith, sum_by-cons f x xs, sum_by-cons f x (set xs i w), total_set f xs i v w at)

  -- one of them is at most the total
  pub part_of_total : (f : A → ℕ) (xs : List A) (i : ℕ) (v : A) → get_elem? xs i ≡ some v → f v ≤ sum_by f xs
  part_of_total f [] i v at = absurd (some-ne-none v (sym at))
  part_of_total f (x ∷ xs) zero v at = let same : x ≡ v = some-injective x v at in omega (arith, sum_by-cons f x xs, ap f same)
  part_of_total f (x ∷ xs) (suc i) v at = omega (arith, sum_by-cons f x xs, part_of_total f xs i v at)

  -- where each is within its share, the total is within the whole
  pub total_within : (f g : A → ℕ) (most : ℕ) (xs : List A) → ((i : ℕ) (v : A) → get_elem? xs i ≡ some v → f v ≤ g v * most) → sum_by f xs ≤ sum_by g xs * most
  total_within f g most [] each = omega arith
  total_within f g most (x ∷ xs) each =
      let rest = total_within f g most xs (λ i v at. each (suc i) v at) in
      let first = each zero x refl in
      omega (arith, sum_by-cons f x xs, ap (λ (k : ℕ). k * most) (sum_by-cons g x xs))

  -- where nothing has a share, and what has none is nothing, the total is nothing
  pub total_nothing : (f g : A → ℕ) (xs : List A) → ((i : ℕ) (v : A) → get_elem? xs i ≡ some v → g v ≡ 0 → f v ≡ 0) → sum_by g xs ≡ 0 → sum_by f xs ≡ 0
  total_nothing f g [] each none = refl
  total_nothing f g (x ∷ xs) each none =
      let here : g x ≡ 0 = omega (arith, sum_by-cons g x xs) in
      let there : sum_by g xs ≡ 0 = omega (arith, sum_by-cons g x xs) in
      omega (arith, sum_by-cons f x xs, each zero x refl here, total_nothing f g xs (λ i v at. each (suc i) v at) there)

  -- each weighs one
  pub ones : (xs : List A) → sum_by (λ _. 1) xs ≡ length xs
  ones [] = refl
  ones (x ∷ xs) = omega (arith, sum_by-cons {X = A} (λ _. 1) x xs, ones xs)

-- the total over what a function gives
pub total_map : {A B : Type 0} (weight : B → ℕ) (f : A → B) (xs : List A) → sum_by weight (map f xs) ≡ sum_by (λ x. weight (f x)) xs
total_map weight f [] = refl
total_map {A} weight f (x ∷ xs) = omega (arith, sum_by-cons weight (f x) (map f xs), sum_by-cons {X = A} (λ y. weight (f y)) x xs, total_map weight f xs)
