-- What bounds of time read as, for doubts.
use Rattle.std.proofs.Common.{◌≡◌, ◌↔◌, ℕ, ℤ, List, Option, Some, None, refl, sym}
use Rattle.mac_decide.specs.Time.{IsTimeLimit, IsLowerBound}
use Rattle.mac_decide.specs.Reading.{limit_of, since_of}
use Rattle.mac_decide.proofs.ReadingLemmas.{limit_of-exact, since_of-exact}

-- two readings that are exact for one thing agree
one_reading : (P : ℤ → Type 0) (r o : Option ℤ) → ((v : ℤ) → (r ≡ Some v) ↔ P v) → ((v : ℤ) → (o ≡ Some v) ↔ P v) → r ≡ o
one_reading P (Some v) o here there = sym ((there v).1 ((here v).0 refl))
one_reading P None (Some v) here there = (here v).1 ((there v).0 refl)
one_reading P None None here there = refl

pub limit_read : (caveat : List ℕ) (r : Option ℤ) → ((v : ℤ) → (r ≡ Some v) ↔ IsTimeLimit caveat v) → r ≡ limit_of caveat
limit_read caveat r exact = one_reading (IsTimeLimit caveat) r (limit_of caveat) exact (limit_of-exact caveat)

pub since_read : (caveat : List ℕ) (r : Option ℤ) → ((v : ℤ) → (r ≡ Some v) ↔ IsLowerBound caveat v) → r ≡ since_of caveat
since_read caveat r exact = one_reading (IsLowerBound caveat) r (since_of caveat) exact (since_of-exact caveat)
