-- Four hexadecimal digits and their number.
use Rattle.std.proofs.Common.{◌≡◌, ℕ, zero, suc, ◌+◌, ◌*◌, ◌/◌, ◌%◌, ◌^◌, ◌<◌, ◌≤◌, Bool, true, false, ◌&&◌, [], ◌∷◌, Option, Some, None, refl, sym, ap, subst, ◌∙◌, arith, inl, inr, ltb}
use Rattle.std.specs.Prelude.{◌==◌, nat_lt}
use Rattle.std.proofs.lemmas.Bool.{cases_lt, ltb-true, eqb-true}
use Rattle.mac_token.specs.V1.{hex_digit, hex_digits}
use Rattle.mac_token.specs.V1Reading.{hex_value, hex_number}
use Rattle.mac_token.proofs.Steps.{bind_some, both_true}

-- the digit is the one of its value
pub record IsDigitOf (b n : ℕ) : Type 0 where
  pub digit : b ≡ hex_digit n
  pub below : n < 16

agrees : ℕ → Option ℕ → Bool
agrees b None = true
agrees b (Some n) = (b == hex_digit n) && nat_lt n 16

abbrev all_below : (ℕ → Bool) → ℕ → Bool
all_below p zero = true
all_below p (suc n) = p n && all_below p n

at_each : (p : ℕ → Bool) (n : ℕ) → all_below p n ≡ true → (k : ℕ) → k < n → p k ≡ true
at_each p zero all k below = absurd (omega arith)
at_each p (suc n) all k below =
    let parts = both_true (p n) (all_below p n) all in
    elim (cases_lt k n) [
      | inl less ↦ at_each p n parts.1 k less
      | inr more ↦ let same : n ≡ k = omega arith in subst (λ m. p m ≡ true) same parts.0
    ]

digits_agree : all_below (λ b. agrees b (hex_value b)) 128 ≡ true
unfolding agrees
digits_agree = refl

above : (b : ℕ) → 128 ≤ b → hex_value b ≡ None
above b high = grind (arith, high)

agreed : (b n : ℕ) → agrees b (Some n) ≡ true → IsDigitOf b n
unfolding agrees
agreed b n e = let parts = both_true (b == hex_digit n) (ltb n 16) e in record { digit = eqb-true _ _ parts.0; below = ltb-true _ _ parts.1 }

-- a digit's value stands for it
pub hex_value_takes : (b n : ℕ) → hex_value b ≡ Some n → IsDigitOf b n
hex_value_takes b n e =
    elim (cases_lt b 128) [
      | inl low ↦ agreed b n (subst (λ o. agrees b o ≡ true) e (at_each (λ b. agrees b (hex_value b)) 128 digits_agree b low))
      | inr high ↦ let no = above b high in absurd cc
    ]

is_some_of : ℕ → Option ℕ → Bool
is_some_of n None = false
is_some_of n (Some k) = k == n

values_agree : all_below (λ n. is_some_of n (hex_value (hex_digit n))) 16 ≡ true
unfolding is_some_of
values_agree = refl

is_some : (n : ℕ) (o : Option ℕ) → is_some_of n o ≡ true → o ≡ Some n
unfolding is_some_of
is_some n None e = absurd cc
is_some n (Some k) e = ap (λ (m : ℕ). Some m) (eqb-true _ _ e)

-- a value's digit has it
pub hex_value_again : (n : ℕ) → n < 16 → hex_value (hex_digit n) ≡ Some n
hex_value_again n below = is_some n (hex_value (hex_digit n)) (at_each (λ n. is_some_of n (hex_value (hex_digit n))) 16 values_agree n below)

four : {a b c d w x y z : ℕ} → a ≡ w → b ≡ x → c ≡ y → d ≡ z → (a ∷ b ∷ c ∷ d ∷ []) ≡ (w ∷ x ∷ y ∷ z ∷ [])
four p q r s = cc

-- four digits are those of their number
pub record AreDigitsOf (a b c d n : ℕ) : Type 0 where
  pub digits : (a ∷ b ∷ c ∷ d ∷ []) ≡ hex_digits n
  pub below : n < 2 ^ 16

pub hex_number_takes : (a b c d n : ℕ) → hex_number a b c d ≡ Some n → AreDigitsOf a b c d n
unfolding hex_number
hex_number_takes a b c d n e =
    let first = bind_some (hex_value a) _ n e in
    let second = bind_some (hex_value b) _ n first.2 in
    let third = bind_some (hex_value c) _ n second.2 in
    let fourth = bind_some (hex_value d) _ n third.2 in
    let h = hex_value_takes a first.0 first.1 in
    let i = hex_value_takes b second.0 second.1 in
    let j = hex_value_takes c third.0 third.1 in
    let k = hex_value_takes d fourth.0 fourth.1 in
    let sum : 4096 * first.0 + 256 * second.0 + 16 * third.0 + fourth.0 ≡ n = cc (fourth.2) in
    let h-is : n / 4096 % 16 ≡ first.0 = omega (arith, sum, h.below, i.below, j.below, k.below) in
    let i-is : n / 256 % 16 ≡ second.0 = omega (arith, sum, h.below, i.below, j.below, k.below) in
    let j-is : n / 16 % 16 ≡ third.0 = omega (arith, sum, h.below, i.below, j.below, k.below) in
    let k-is : n % 16 ≡ fourth.0 = omega (arith, sum, h.below, i.below, j.below, k.below) in
    let a-is : a ≡ hex_digit (n / 4096 % 16) = h.digit ∙ ap hex_digit (sym h-is) in
    let b-is : b ≡ hex_digit (n / 256 % 16) = i.digit ∙ ap hex_digit (sym i-is) in
    let c-is : c ≡ hex_digit (n / 16 % 16) = j.digit ∙ ap hex_digit (sym j-is) in
    let d-is : d ≡ hex_digit (n % 16) = k.digit ∙ ap hex_digit (sym k-is) in
    record { digits = four a-is b-is c-is d-is; below = omega (arith, sum, h.below, i.below, j.below, k.below) }

-- the digits of a number are read as it
pub hex_number_again : (n : ℕ) → n < 2 ^ 16 → hex_number (hex_digit (n / 4096 % 16)) (hex_digit (n / 256 % 16)) (hex_digit (n / 16 % 16)) (hex_digit (n % 16)) ≡ Some n
unfolding hex_number
hex_number_again n below =
    rw (hex_value_again (n / 4096 % 16) (omega arith), hex_value_again (n / 256 % 16) (omega arith), hex_value_again (n / 16 % 16) (omega arith), hex_value_again (n % 16) (omega arith))
    (ap (λ (k : ℕ). Some k) (omega arith))
