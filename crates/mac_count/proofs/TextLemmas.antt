-- Texts that are put one behind the other.
use Rattle.std.proofs.Common.{◌≡◌, ℕ, List, ◌++◌, Result, Ok, Err, ap, ◌∙◌, append_assoc}
use Rattle.std.specs.Result.{OnOk}

-- three of them, of which the last one may fail
pub three_put : {T E : Type 0} (result : Result T E) (o0 o1 o2 o3 a b d : List ℕ) → o1 ≡ o0 ++ a → o2 ≡ o1 ++ b → OnOk result (o3 ≡ o2 ++ d)
    → OnOk result (o3 ≡ o0 ++ (a ++ (b ++ d)))
three_put (Ok x) o0 o1 o2 o3 a b d first second third =
    third ∙ ap (λ (l : List ℕ). l ++ d) (second ∙ ap (λ (l : List ℕ). l ++ b) first) ∙ append_assoc (o0 ++ a) b d ∙ append_assoc o0 a (b ++ d)
three_put (Err e) o0 o1 o2 o3 a b d first second third = tt

-- two of them
pub two_put : {T E : Type 0} (result : Result T E) (o0 o1 o2 a b : List ℕ) → o1 ≡ o0 ++ a → OnOk result (o2 ≡ o1 ++ b) → OnOk result (o2 ≡ o0 ++ (a ++ b))
two_put (Ok x) o0 o1 o2 a b first second = second ∙ ap (λ (l : List ℕ). l ++ b) first ∙ append_assoc o0 a b
two_put (Err e) o0 o1 o2 a b first second = tt
