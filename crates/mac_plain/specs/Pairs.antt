-- Elements at the same places of two lists.
use Rattle.std.specs.Prelude.{◌≡◌, ℕ, List, Some, slice_get}

-- each pair of elements at the same place, with that place
abbrev pub EachPair : {A : Type 0} → (ℕ → A → A → Type 0) → List A → List A → Type 0
EachPair {A} R olds news =
    (k : ℕ) → (old new : A) → slice_get olds k ≡ Some old → slice_get news k ≡ Some new
    → R k old new
