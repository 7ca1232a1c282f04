-- Passes that go out and come home, weighed.
use Rattle.std.proofs.Common.{◌≡◌, ℕ, zero, suc, ◌+◌, ◌<◌, ◌≤◌, List, [], ◌∷◌, length, set, Option, None, Some, slice_get, ap, refl, arith}
use Rattle.std.specs.List.{sum_by}
use Rattle.std.proofs.lemmas.List.Sums.{sum_by-cons}
use Rattle.mac_queue.specs.Pass.{Pass}
use Rattle.mac_pool.specs.Pool.{at_home}

module _ {A : Type 0} (weight : A → ℕ) where
  -- where each weighs nothing, all do
  pub all_nothing : (xs : List A) → ((n : ℕ) (x : A) → slice_get xs n ≡ Some x → weight x ≡ 0) → sum_by weight xs ≡ 0
  all_nothing [] none = refl
  all_nothing (x ∷ xs) none = let first = none 0 x refl in let others = all_nothing xs (λ n. none (suc n)) in omega (arith, sum_by-cons weight x xs)

module _ {Job : Type 0} where
  module _ (weight : Pass Job → ℕ) where
    -- a pass that goes out
    pub went_out : (slots : List (Option (Pass Job))) (n : ℕ) (pass : Pass Job) → slice_get slots n ≡ Some (Some pass) → sum_by weight (at_home (set slots n None)) + weight pass ≡ sum_by weight (at_home slots)
    went_out [] n pass at = absurd (cc)
    went_out (None ∷ slots) zero pass at = absurd (cc)
    went_out (Some first ∷ slots) zero pass at =
        let same : first ≡ pass = cc in
        omega (arith, sum_by-cons weight first (at_home slots), ap weight same)
    went_out (None ∷ slots) (suc n) pass at = went_out slots n pass at
    went_out (Some first ∷ slots) (suc n) pass at =
        let r = went_out slots n pass at in
        omega (arith, sum_by-cons weight first (at_home slots), sum_by-cons weight first (at_home (set slots n None)))

    -- a pass that comes home
    pub came_home : (slots : List (Option (Pass Job))) (n : ℕ) (pass : Pass Job) → slice_get slots n ≡ Some None → sum_by weight (at_home (set slots n (Some pass))) ≡ sum_by weight (at_home slots) + weight pass
    came_home [] n pass at = absurd (cc)
    came_home (None ∷ slots) zero pass at = omega (arith, sum_by-cons weight pass (at_home slots))
    came_home (Some first ∷ slots) zero pass at = absurd (cc)
    came_home (None ∷ slots) (suc n) pass at = came_home slots n pass at
    came_home (Some first ∷ slots) (suc n) pass at =
        let r = came_home slots n pass at in
        omega (arith, sum_by-cons weight first (at_home slots), sum_by-cons weight first (at_home (set slots n (Some pass))))

  -- where the first slots are empty and the others full, the empty ones are all that is missing
  pub first_missing : (slots : List (Option (Pass Job))) (few : ℕ) → few ≤ length slots
      → ((n : ℕ) → n < few → slice_get slots n ≡ Some None)
      → ((n : ℕ) → few ≤ n → n < length slots → (pass : Pass Job) × (slice_get slots n ≡ Some (Some pass)))
      → length (at_home slots) + few ≡ length slots
  first_missing [] few fits out full = omega arith
  first_missing (None ∷ slots) zero fits out full = let at = (full 0 (omega arith) (omega arith)).1 in absurd (cc)
  first_missing (None ∷ slots) (suc few) fits out full =
      let r = first_missing slots few (omega arith) (λ n less. out (suc n) (omega arith)) (λ n least below. full (suc n) (omega arith) (omega arith)) in omega arith
  first_missing (Some pass ∷ slots) zero fits out full =
      let r = first_missing slots zero (omega arith) (λ n less. absurd (omega arith)) (λ n least below. full (suc n) (omega arith) (omega arith)) in omega arith
  first_missing (Some pass ∷ slots) (suc few) fits out full = let at = out 0 (omega arith) in absurd (cc)
