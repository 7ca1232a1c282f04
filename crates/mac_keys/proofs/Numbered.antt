-- What a function gives of the numbered elements of a list: nothing at all, or something first.
use Rattle.std.proofs.Common.{◌≡◌, ℕ, zero, suc, ◌+◌, ◌<◌, List, [], ◌∷◌, Option, Some, None, refl, sym, ap, ◌∙◌, arith, add-zero}
use Rattle.std.specs.List.{filter_map, cons_option, enumerate_from, slice_get}

nothing_in : {Y : Type 0} (o : Option Y) (rest : List Y) → cons_option o rest ≡ [] → (o ≡ None) × (rest ≡ [])
nothing_in None rest e = (refl, e)
nothing_in (Some y) rest e = cc

module _ {X Y : Type 0} (h : ℕ × X → Option Y) where
  -- what h gives, where the first element has the number k
  abbrev pub results : ℕ → List X → List Y
  results k xs = filter_map h (enumerate_from k xs)

  at_zero : (k : ℕ) (x z : X) (o : Option Y) → Some x ≡ Some z → h (k, x) ≡ o → h (k + 0, z) ≡ o
  at_zero k x z o same e = ap (λ n. h (n, z)) (add-zero k) ∙ ap (λ y. h (k, y)) (let back : z ≡ x = cc in back) ∙ e

  at_suc : (k i : ℕ) (z : X) → h (k + suc i, z) ≡ h ((k + 1) + i, z)
  at_suc k i z = let e : k + suc i ≡ (k + 1) + i = omega arith in ap (λ n. h (n, z)) e

  pub each_None : (k : ℕ) (xs : List X) → results k xs ≡ [] → (i : ℕ) (z : X) → slice_get xs i ≡ Some z → h (k + i, z) ≡ None
  each_None k [] e i z there = cc
  each_None k (x ∷ xs) e zero z there = at_zero k x z None there (nothing_in (h (k, x)) (results (k + 1) xs) e).0
  each_None k (x ∷ xs) e (suc i) z there = at_suc k i z ∙ each_None (k + 1) xs (nothing_in (h (k, x)) (results (k + 1) xs) e).1 i z there

  pub results-none : (k : ℕ) (xs : List X) → ((i : ℕ) (z : X) → slice_get xs i ≡ Some z → h (k + i, z) ≡ None) → results k xs ≡ []
  results-none k [] all = refl
  results-none k (x ∷ xs) all =
      ap (λ o. cons_option o (results (k + 1) xs)) (ap (λ n. h (n, x)) (sym (add-zero k)) ∙ all zero x refl)
      ∙ results-none (k + 1) xs (λ i z there. sym (at_suc k i z) ∙ all (suc i) z there)

  -- the element at place i is the first of which h gives something, and that is y
  pub record IsFirst (k : ℕ) (xs : List X) (y : Y) (i : ℕ) (z : X) : Type 0 where
    pub there : slice_get xs i ≡ Some z
    pub gives : h (k + i, z) ≡ Some y
    pub before : (j : ℕ) (w : X) → j < i → slice_get xs j ≡ Some w → h (k + j, w) ≡ None

  later_before : (k : ℕ) (x : X) (xs : List X) (i : ℕ) → h (k, x) ≡ None → ((j : ℕ) (w : X) → j < i → slice_get xs j ≡ Some w → h ((k + 1) + j, w) ≡ None)
      → (j : ℕ) (w : X) → j < suc i → slice_get (x ∷ xs) j ≡ Some w → h (k + j, w) ≡ None
  later_before k x xs i none before zero w less there = at_zero k x w None there none
  later_before k x xs i none before (suc j) w less there = at_suc k j w ∙ before j w (omega arith) there

  pub first_of : (k : ℕ) (xs : List X) (y : Y) (ys : List Y) → results k xs ≡ y ∷ ys → (i : ℕ) × (z : X) × IsFirst k xs y i z
  first_of k [] y ys e = cc
  first_of k (x ∷ xs) y ys e =
      elim (h (k, x)) as (λ o. h (k, x) ≡ o → cons_option o (results (k + 1) xs) ≡ y ∷ ys → (i : ℕ) × (z : X) × IsFirst k (x ∷ xs) y i z) [
        | Some w ↦ λ gives same. (
          0,
          x,
          record {
            there = refl;
            gives = at_zero k x x (Some y) refl (gives ∙ cc);
            before = λ j v less there. absurd (omega arith);
          },
        )
        | None ↦ λ none rest.
            let (i, z, first) = first_of (k + 1) xs y ys rest in (
              suc i,
              z,
              record {
                there = first.there;
                gives = at_suc k i z ∙ first.gives;
                before = later_before k x xs i none first.before;
              },
            )
      ] refl e

  pub results-first : (k : ℕ) (xs : List X) (y : Y) (i : ℕ) (z : X) → IsFirst k xs y i z → (ys : List Y) × (results k xs ≡ y ∷ ys)
  results-first k [] y i z first = let there = first.there in cc
  results-first k (x ∷ xs) y zero z first =
      let there = first.there in
      let same : x ≡ z = cc in
      (results (k + 1) xs, ap (λ o. cons_option o (results (k + 1) xs)) (ap (λ w. h (k, w)) same ∙ ap (λ n. h (n, z)) (sym (add-zero k)) ∙ first.gives))
  results-first k (x ∷ xs) y (suc i) z first =
      let (ys, rest) = results-first (k + 1) xs y i z (record {
        there = first.there;
        gives = sym (at_suc k i z) ∙ first.gives;
        before = λ j w less there. sym (at_suc k j w) ∙ first.before (suc j) w (omega arith) there;
      }) in
      (ys, ap (λ o. cons_option o (results (k + 1) xs)) (ap (λ n. h (n, x)) (sym (add-zero k)) ∙ first.before zero x (omega arith) refl) ∙ rest)
