-- A text that is compared with a secret.
use Rattle.std.proofs.Common.{◌≡◌, ℕ, List, Bool, true, false, ap, ◌∙◌}
use Rattle.std.specs.Prelude.{◌≢◌, ◌↔◌, IsTrue, bytes_eq, length}
use Rattle.std.proofs.lemmas.Bool.{false≢true}
use Rattle.std.proofs.lemmas.Bool.Decides.{same_from_decides}
use Rattle.std.proofs.lemmas.Slice.Eq.{bytes_eq-Decides}

-- a test that holds where two texts are the same is their comparison
pub compared : (a b : List ℕ) (r : Bool) → (IsTrue r ↔ (a ≡ b)) → r ≡ bytes_eq a b
compared a b r both = same_from_decides r (bytes_eq a b) both (bytes_eq-Decides a b)

-- texts of different lengths aren't the same
pub other_length : (a b : List ℕ) → length a ≢ 32 → length b ≡ 32 → false ≡ bytes_eq a b
other_length a b other whole =
    compared a b false ((λ yes. absurd (false≢true yes)), (λ same. absurd (other (ap length same ∙ whole))))
