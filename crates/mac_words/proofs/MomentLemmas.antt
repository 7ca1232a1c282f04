-- What the readings of a moment say together.
use Rattle.std.proofs.Common.{◌≡◌, ℕ, ℤ, pos, ◌↔◌, inl, inr, List, Option, Some, None, refl, ap}
use Rattle.mac_words.specs.Moment.{IsMoment, IsSeconds, IsTime}

pub by_time : (text : List ℕ) (second : ℤ) (r : Option ℕ) → ((v : ℤ) → (◌≡◌ {A = Option ℤ} (Some second) (Some v)) ↔ IsTime text v) → ((n : ℕ) → (r ≡ Some n) ↔ (second ≡ pos n))
    → (n : ℕ) → (r ≡ Some n) ↔ IsMoment text n
by_time text second r time found n = (λ is. inl ((time (pos n)).0 (ap Some ((found n).0 is))), back)
  where
    back : IsMoment text n → r ≡ Some n
    back (inl at) = let same : ◌≡◌ {A = Option ℤ} (Some second) (Some (pos n)) = (time (pos n)).1 at in
        let one : second ≡ pos n = cc in (found n).1 one
    back (inr other) = absurd (other.0 second ((time second).0 refl))

pub by_seconds : (text : List ℕ) (r : Option ℕ) → ((v : ℤ) → (◌≡◌ {A = Option ℤ} None (Some v)) ↔ IsTime text v) → ((n : ℕ) → (r ≡ Some n) ↔ IsSeconds text n)
    → (n : ℕ) → (r ≡ Some n) ↔ IsMoment text n
by_seconds text r none found n = (λ is. inr (never, (found n).0 is), back)
  where
    never : (v : ℤ) → IsTime text v → ⊥
    never v at = let same : ◌≡◌ {A = Option ℤ} None (Some v) = (none v).1 at in cc

    back : IsMoment text n → r ≡ Some n
    back (inl at) = absurd (never (pos n) at)
    back (inr other) = (found n).1 other.1
