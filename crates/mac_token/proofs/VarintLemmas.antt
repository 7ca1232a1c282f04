-- Varints: the groups of a number, and reading them again.
use Rattle.std.proofs.Common.{◌≡◌, ℕ, zero, suc, ◌+◌, ◌*◌, ◌/◌, ◌%◌, ◌^◌, ◌<◌, ◌≤◌, Bool, true, false, cond, ltb, List, [], ◌∷◌, ◌++◌, get_or, length, drop, Option, Some, None, refl, sym, ap, ◌∙◌, arith, inl, inr}
use Rattle.std.proofs.lemmas.Bool.{cases_lt, lt-ltb, le-ltb}
use Rattle.std.proofs.lemmas.List.{drop_more}
use Rattle.std.proofs.Math.Nat.{mul-le-mul_left, pow-suc}
use Rattle.base64.specs.GeneralPurpose.{IsBytes}
use Rattle.mac_token.specs.Varint.{groups, varint}
use Rattle.mac_token.specs.V2Reading.{varint_with, varint_at}

-- ---- the groups of a number

-- a number below 128 is its own group
groups_low : (k n : ℕ) → n < 128 → groups k n ≡ n ∷ []
unfolding groups
groups_low zero n low = refl
groups_low (suc k) n low = rw (lt-ltb n 128 low) refl

groups_high : (k n : ℕ) → 128 ≤ n → groups (suc k) n ≡ (128 + n % 128) ∷ groups k (n / 128)
unfolding groups
groups_high k n high = rw (le-ltb n 128 high) refl

-- more room for groups than there are changes nothing
groups_enough : (k j n : ℕ) → n ≤ k → n ≤ j → groups k n ≡ groups j n
groups_enough zero j n a b = groups_low zero n (omega arith) ∙ sym (groups_low j n (omega arith))
groups_enough (suc k) zero n a b = groups_low (suc k) n (omega arith) ∙ sym (groups_low zero n (omega arith))
groups_enough (suc k) (suc j) n a b =
    elim (cases_lt n 128) [
      | inl low ↦ groups_low (suc k) n low ∙ sym (groups_low (suc j) n low)
      | inr high ↦ groups_high k n high ∙ ap (λ (t : List ℕ). (128 + n % 128) ∷ t) (groups_enough k j (n / 128) (omega arith) (omega arith)) ∙ sym (groups_high j n high)
    ]

pub varint_low : (n : ℕ) → n < 128 → varint n ≡ n ∷ []
unfolding varint
varint_low n low = groups_low n n low

pub varint_high : (n : ℕ) → 128 ≤ n → varint n ≡ (128 + n % 128) ∷ varint (n / 128)
unfolding varint
varint_high zero high = absurd (omega arith)
varint_high (suc n) high = groups_high n (suc n) high ∙ ap (λ (t : List ℕ). (128 + suc n % 128) ∷ t) (groups_enough n (suc n / 128) (suc n / 128) (omega arith) (omega arith))

-- ---- reading

pub varint_at-low : (b : ℕ) (bytes : List ℕ) → b < 128 → varint_at (b ∷ bytes) ≡ Some (b, bytes)
unfolding varint_at
varint_at-low b bytes low = rw (lt-ltb b 128 low) refl

pub varint_at-high : (b : ℕ) (bytes : List ℕ) → 128 ≤ b → varint_at (b ∷ bytes) ≡ varint_with (b % 128) 128 (varint_at bytes)
unfolding varint_at
varint_at-high b bytes high = rw (le-ltb b 128 high) refl

-- what a number is whose high part isn't 0
varint_with_some : (low unit n : ℕ) (rest : List ℕ) → 0 < n → varint_with low unit (Some (n, rest)) ≡ Some (low + unit * n, rest)
unfolding varint_with
varint_with_some low unit zero rest pos = absurd (omega arith)
varint_with_some low unit (suc n) rest pos = refl

again : (k n : ℕ) (rest : List ℕ) → n ≤ k → varint_at (groups k n ++ rest) ≡ Some (n, rest)
again zero n rest le = ap (λ (t : List ℕ). varint_at (t ++ rest)) (groups_low zero n (omega arith)) ∙ varint_at-low n rest (omega arith)
again (suc k) n rest le =
    elim (cases_lt n 128) [
      | inl low ↦ ap (λ (t : List ℕ). varint_at (t ++ rest)) (groups_low (suc k) n low) ∙ varint_at-low n rest low
      | inr high ↦
          let digit : (128 + n % 128) % 128 ≡ n % 128 = omega arith in
          let sum : n % 128 + 128 * (n / 128) ≡ n = omega arith in
          ap (λ (t : List ℕ). varint_at (t ++ rest)) (groups_high k n high)
          ∙ varint_at-high (128 + n % 128) (groups k (n / 128) ++ rest) (omega arith)
          ∙ ap (λ (r : Option (ℕ × List ℕ)). varint_with ((128 + n % 128) % 128) 128 r) (again k (n / 128) rest (omega arith))
          ∙ varint_with_some ((128 + n % 128) % 128) 128 (n / 128) rest (omega arith)
          ∙ rw (digit, sum) refl
    ]

-- a varint is read as its number, whatever follows
pub varint_again : (n : ℕ) (rest : List ℕ) → varint_at (varint n ++ rest) ≡ Some (n, rest)
unfolding varint
varint_again n rest = again n n rest (omega arith)

abbrev pair : ℕ → List ℕ → Option (ℕ × List ℕ)
pair n rest = Some (n, rest)

same_pair : (m n : ℕ) (a b : List ℕ) → pair m a ≡ pair n b → (m ≡ n) × (a ≡ b)
same_pair m n a b e = let both : (m, a) ≡ (n, b) = cc in (ap (λ (p : ℕ × List ℕ). p.0) both, ap (λ (p : ℕ × List ℕ). p.1) both)

-- a number whose high part was read: that part isn't 0, and the whole is the sum
varint_with_parts : (low n : ℕ) (rest : List ℕ) (r : Option (ℕ × List ℕ)) → varint_with low 128 r ≡ Some (n, rest) → (high : ℕ) × (r ≡ Some (high, rest)) × (0 < high) × (low + 128 * high ≡ n)
unfolding varint_with
varint_with_parts low n rest None e = absurd cc
varint_with_parts low n rest (Some (zero, after)) e = absurd cc
varint_with_parts low n rest (Some (suc high, after)) e =
    let s = same_pair (low + 128 * suc high) n after rest e in
    (suc high, ap (λ (t : List ℕ). pair (suc high) t) s.1, omega arith, s.0)

nothing_at : (n : ℕ) (rest : List ℕ) → varint_at [] ≡ pair n rest → ⊥
unfolding varint_at
nothing_at n rest e = absurd cc

-- what is read as a number is its varint, and the rest follows
pub varint_takes : (bytes : List ℕ) (n : ℕ) (rest : List ℕ) → IsBytes bytes → varint_at bytes ≡ Some (n, rest) → bytes ≡ varint n ++ rest
varint_takes [] n rest fits e = absurd (nothing_at n rest e)
varint_takes (b ∷ bytes) n rest fits e =
    elim (cases_lt b 128) [
      | inl low ↦
          let s = same_pair b n bytes rest (sym (varint_at-low b bytes low) ∙ e) in
          let small : n < 128 = omega arith in
          rw (varint_low n small) (ap (λ (m : ℕ). m ∷ bytes) s.0 ∙ ap (λ (t : List ℕ). n ∷ t) s.1)
      | inr high ↦
          let p = varint_with_parts (b % 128) n rest (varint_at bytes) (sym (varint_at-high b bytes high) ∙ e) in
          let below : b < 256 = fits 0 in
          let large : 128 ≤ n = omega arith in
          let digit : b ≡ 128 + n % 128 = omega arith in
          let part : p.0 ≡ n / 128 = omega arith in
          let tail = varint_takes bytes p.0 rest (λ i. fits (suc i)) p.1 in
          ap (λ (t : List ℕ). b ∷ t) (tail ∙ ap (λ (m : ℕ). varint m ++ rest) part) ∙ ap (λ (m : ℕ). m ∷ (varint (n / 128) ++ rest)) digit ∙ sym (ap (λ (t : List ℕ). t ++ rest) (varint_high n large))
    ]

-- ---- a reader that keeps the low part, and what one more group is worth

pub varint_with_none : (r : Option (ℕ × List ℕ)) → varint_with 0 1 r ≡ r
unfolding varint_with
varint_with_none None = refl
varint_with_none (Some (zero, rest)) = refl
varint_with_none (Some (suc n, rest)) = let e : 0 + 1 * suc n ≡ suc n = omega arith in ap (λ (m : ℕ). pair m rest) e

varint_with_pos : (low unit m : ℕ) (rest : List ℕ) → 0 < m → varint_with low unit (pair m rest) ≡ pair (low + unit * m) rest
varint_with_pos low unit m rest pos = varint_with_some low unit m rest pos

twice : (low unit digit : ℕ) (r : Option (ℕ × List ℕ)) → 0 < unit → varint_with low unit (varint_with digit 128 r) ≡ varint_with (low + unit * digit) (unit * 128) r
unfolding varint_with
twice low unit digit None pos = refl
twice low unit digit (Some (zero, rest)) pos = rw (lt-ltb 1 (unit * 128) (omega arith)) refl
twice low unit digit (Some (suc n, rest)) pos =
    let sum : low + unit * (digit + 128 * suc n) ≡ low + unit * digit + unit * 128 * suc n = omega arith in
    varint_with_pos low unit (digit + 128 * suc n) rest (omega arith) ∙ ap (λ (m : ℕ). pair m rest) sum

-- nothing is left
pub varint_with_end : (low unit : ℕ) → varint_with low unit (varint_at []) ≡ None
unfolding varint_with varint_at
varint_with_end low unit = refl

-- one more group
pub varint_with_more : (low unit b : ℕ) (bytes : List ℕ) → 0 < unit → 128 ≤ b → varint_with low unit (varint_at (b ∷ bytes)) ≡ varint_with (low + unit * (b % 128)) (unit * 128) (varint_at bytes)
varint_with_more low unit b bytes pos high = ap (λ (r : Option (ℕ × List ℕ)). varint_with low unit r) (varint_at-high b bytes high) ∙ twice low unit (b % 128) (varint_at bytes) pos

-- where nothing is read, no varint stands
pub no_varint : (bytes rest : List ℕ) (n : ℕ) → varint_at bytes ≡ None → bytes ≡ varint n ++ rest → ⊥
no_varint bytes rest n none is = let e : pair n rest ≡ None = sym (varint_again n rest) ∙ sym (ap varint_at is) ∙ none in cc

-- a number read so far is read on at the next byte
pub at_byte : (bytes : List ℕ) (low unit i : ℕ) → i < length bytes → varint_at bytes ≡ varint_with low unit (varint_at (drop i bytes)) → varint_at bytes ≡ varint_with low unit (varint_at (get_or bytes i 0 ∷ drop (i + 1) bytes))
at_byte bytes low unit i lt whole = whole ∙ ap (λ (t : List ℕ). varint_with low unit (varint_at t)) (drop_more bytes i 0 lt)

refused : (low unit : ℕ) (rest : List ℕ) → 1 < unit → varint_with low unit (pair 0 rest) ≡ None
unfolding varint_with
refused low unit rest more = rw (lt-ltb 1 unit more) refl

-- a last byte of 0 behind others is no shortest form
pub varint_with_zero : (low unit : ℕ) (rest : List ℕ) → 1 < unit → varint_with low unit (varint_at (0 ∷ rest)) ≡ None
varint_with_zero low unit rest more = ap (λ (r : Option (ℕ × List ℕ)). varint_with low unit r) (varint_at-low 0 rest (omega arith)) ∙ refused low unit rest more

ends : (low unit b : ℕ) (rest : List ℕ) → b < 128 → (b ≡ 0 → unit ≤ 1) → varint_with low unit (pair b rest) ≡ Some (low + unit * (b % 128), rest)
unfolding varint_with
ends low unit zero rest lt one = let e : low ≡ low + unit * (0 % 128) = omega arith in rw (le-ltb 1 unit (one refl)) (ap (λ (m : ℕ). pair m rest) e)
ends low unit (suc n) rest lt one = let e : low + unit * suc n ≡ low + unit * (suc n % 128) = ap (λ (m : ℕ). low + unit * m) (omega arith) in ap (λ (m : ℕ). pair m rest) e

-- another last byte ends the number
pub varint_with_last : (low unit b : ℕ) (rest : List ℕ) → b < 128 → (b ≡ 0 → unit ≤ 1) → varint_with low unit (varint_at (b ∷ rest)) ≡ Some (low + unit * (b % 128), rest)
varint_with_last low unit b rest low_byte shortest = ap (λ (r : Option (ℕ × List ℕ)). varint_with low unit r) (varint_at-low b rest low_byte) ∙ ends low unit b rest low_byte shortest

cond_some : (b : Bool) (m n : ℕ) (after rest : List ℕ) → cond b None (pair m after) ≡ pair n rest → (m ≡ n) × (after ≡ rest)
cond_some true m n after rest e = absurd cc
cond_some false m n after rest e = same_pair m n after rest e

-- a number is at least what its groups so far stand for, and one group more where another follows
varint_with_least : (low unit n : ℕ) (rest : List ℕ) (r : Option (ℕ × List ℕ)) → varint_with low unit r ≡ Some (n, rest) → (high : ℕ) × (r ≡ Some (high, rest)) × (low + unit * high ≡ n)
unfolding varint_with
varint_with_least low unit n rest None e = absurd cc
varint_with_least low unit n rest (Some (zero, after)) e =
    let p = cond_some (ltb 1 unit) low n after rest e in (0, ap (λ (t : List ℕ). pair 0 t) p.1, omega (arith, p.0))
varint_with_least low unit n rest (Some (suc high, after)) e =
    let s = same_pair (low + unit * suc high) n after rest e in
    (suc high, ap (λ (t : List ℕ). pair (suc high) t) s.1, s.0)

-- what a number is at least, which begins with this byte
first_least : (b n : ℕ) (after rest : List ℕ) → varint_at (b ∷ after) ≡ Some (n, rest) → (b % 128 ≤ n) × (128 ≤ b → 128 ≤ n)
first_least b n after rest e =
    elim (cases_lt b 128) [
      | inl low ↦ let s = same_pair b n after rest (sym (varint_at-low b after low) ∙ e) in (omega arith, λ high. omega arith)
      | inr high ↦ let p = varint_with_parts (b % 128) n rest (varint_at after) (sym (varint_at-high b after high) ∙ e) in (omega arith, λ _. omega arith)
    ]

pub number_least : (bytes : List ℕ) (low unit b : ℕ) (after : List ℕ) (n : ℕ) (rest : List ℕ) → varint_at bytes ≡ varint_with low unit (varint_at (b ∷ after)) → bytes ≡ varint n ++ rest → (low + unit * (b % 128) ≤ n) × (128 ≤ b → unit * 128 ≤ n)
number_least bytes low unit b after n rest whole is =
    let read : varint_with low unit (varint_at (b ∷ after)) ≡ Some (n, rest) = sym whole ∙ ap varint_at is ∙ varint_again n rest in
    let p = varint_with_least low unit n rest (varint_at (b ∷ after)) read in
    let q = first_least b p.0 after rest p.1 in
    (omega (arith, mul-le-mul_left unit q.0), λ high. omega (arith, mul-le-mul_left unit (q.1 high)))

-- ---- how long a varint is

pub length-varint_high : (n : ℕ) → 128 ≤ n → length (varint n) ≡ length (varint (n / 128)) + 1
length-varint_high n high = ap length (varint_high n high) ∙ omega arith

positive : (k n : ℕ) → 128 ≤ n → n < 128 ^ suc k → 0 < k
positive zero n high below = absurd (omega arith)
positive (suc k) n high below = omega arith

-- a number below 128 ^ k has at most k groups
length-varint_le : (k n : ℕ) → 0 < k → n < 128 ^ k → length (varint n) ≤ k
length-varint_le zero n pos below = absurd (omega arith)
length-varint_le (suc k) n pos below =
    elim (cases_lt n 128) [
      | inl low ↦ let one : length (varint n) ≡ 1 = ap length (varint_low n low) in omega arith
      | inr high ↦
          let power : 128 ^ suc k ≡ 128 ^ k * 128 = pow-suc 128 k in
          let part : n / 128 < 128 ^ k = omega arith in
          let more : 0 < k = positive k n high below in
          let shorter = length-varint_le k (n / 128) more part in
          omega (arith, length-varint_high n high)
    ]

-- a number of 64 bits has at most ten
pub length-varint_10 : (n : ℕ) → n < 2 ^ 64 → length (varint n) ≤ 10
length-varint_10 n below = length-varint_le 10 n (omega arith) (omega arith)
