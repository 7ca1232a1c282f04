-- Names that were copied with what they have.
use Rattle.std.proofs.Common.{◌≡◌, ℕ, List, [], ◌∷◌, refl}
use Rattle.std.specs.List.{AllZip}
use Rattle.std.specs.declared.vec.Vec.{Vec}
use Rattle.std.specs.declared.alloc.Global.{Global}
use Rattle.mac_keys.specs.Keys.{by_name}

-- entries that were copied one by one have the same names, with the same values
pub by_name-copied : {X : Type 0} (C : Vec ℕ Global → Vec ℕ Global → Type 0) (D : X → X → Type 0)
    → ((x y : Vec ℕ Global) → C x y → y.items ≡ x.items) → ((v w : X) → D v w → w ≡ v)
    → (es fs : List (Vec ℕ Global × X)) → AllZip (λ p q. C p.0 q.0 × D p.1 q.1) es fs → by_name fs ≡ by_name es
by_name-copied C D names values [] [] all = refl
by_name-copied C D names values [] (f ∷ fs) all = absurd all
by_name-copied C D names values (e ∷ es) [] all = absurd all
by_name-copied C D names values (e ∷ es) (f ∷ fs) all =
    λ i. (names e.0 f.0 all.0.0 i, values e.1 f.1 all.0.1 i) ∷ by_name-copied C D names values es fs all.1 i
