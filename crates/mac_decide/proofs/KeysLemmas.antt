-- One of a name's keys, of which there are one or two.
use Rattle.std.proofs.Common.{◌≡◌, ◌⊎◌, inl, inr, zero, suc, List, [], ◌∷◌, refl, arith}
use Rattle.std.specs.List.{Any}

module _ {X : Type 0} {P : X → Type 0} where
  pub Any-here : (x : X) (xs : List X) → P x → Any P (x ∷ xs)
  Any-here x xs here = (0, x, omega arith, refl, here)

  pub Any-later : (x : X) (xs : List X) → Any P xs → Any P (x ∷ xs)
  Any-later x xs (k, y, within, is, later) = (suc k, y, omega arith, is, later)

  pub Any-cases : (x : X) (xs : List X) → Any P (x ∷ xs) → P x ⊎ Any P xs
  Any-cases x xs (zero, y, within, is, holds) = let same : x ≡ y = is in inl (rw same holds)
  Any-cases x xs (suc k, y, within, is, holds) = inr (k, y, omega arith, is, holds)

  pub Any-none : Any P [] → ⊥
  Any-none (k, y, within, is, holds) = absurd (omega arith)
