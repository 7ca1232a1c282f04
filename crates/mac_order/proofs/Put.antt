-- What is at a place of a list, once another item is set there or elsewhere.
use Rattle.std.proofs.Common.{◌≡◌, ◌≢◌, ℕ, zero, suc, ◌<◌, inl, inr, List, [], ◌∷◌, length, set, Some, slice_get, sym, ◌∙◌, ap, refl, arith}
use Rattle.std.proofs.lemmas.Bool.Decides.{eqb_tells}
use Rattle.std.proofs.lemmas.Option.{slice_get_within}

module _ {Item : Type 0} where
  pub slice_get-set_same : (items : List Item) (index : ℕ) (item : Item) → index < length items → slice_get (set items index item) index ≡ Some item
  slice_get-set_same [] index item within = absurd (omega arith)
  slice_get-set_same (first ∷ items) zero item within = refl
  slice_get-set_same (first ∷ items) (suc index) item within = slice_get-set_same items index item (omega arith)

  pub slice_get-set_other : (items : List Item) (index : ℕ) (item : Item) (other : ℕ) → other ≢ index → slice_get (set items index item) other ≡ slice_get items other
  slice_get-set_other [] index item other apart = refl
  slice_get-set_other (first ∷ items) zero item zero apart = absurd (apart refl)
  slice_get-set_other (first ∷ items) zero item (suc other) apart = refl
  slice_get-set_other (first ∷ items) (suc index) item zero apart = refl
  slice_get-set_other (first ∷ items) (suc index) item (suc other) apart = slice_get-set_other items index item other (λ e. apart (ap suc e))

  -- what is at a place of a list, once another item is set
  pub put : (items : List Item) (here there : ℕ) (old item found : Item) (P : Item → Type 0) → slice_get items here ≡ Some old → slice_get items there ≡ Some found → (here ≡ there → P item) → P found → (after : Item) × (slice_get (set items here item) there ≡ Some after) × P after
  put items here there old item found P at known same other = elim (eqb_tells there here) [
    | inl is ↦ (item, ap (slice_get (set items here item)) is.1 ∙ slice_get-set_same items here item (slice_get_within items here old at), same (sym is.1))
    | inr is ↦ (found, slice_get-set_other items here item there is.1 ∙ known, other)
  ]

pub slice_get-within : {Item : Type 0} (items : List Item) (index : ℕ) → index < length items → (item : Item) × (slice_get items index ≡ Some item)
slice_get-within [] index within = absurd (omega arith)
slice_get-within (first ∷ items) zero within = (first, refl)
slice_get-within (first ∷ items) (suc index) within = slice_get-within items index (omega arith)
