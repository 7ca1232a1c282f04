-- What tells the two alphabets of base64 and the padding letter apart, in the tables of the crate `base64`.
use Rattle.std.proofs.Common.{◌≡◌, ◌≢◌, ℕ, suc, ◌+◌, ◌*◌, ◌/◌, ◌%◌, ◌==◌, ◌<◌, Bool, true, not, ◌||◌, List, [], ◌∷◌, slice_index, refl, arith, inl, inr}
use Rattle.std.proofs.lemmas.Bool.{not-true, eqb-true, eqb-false, or_cases}
use Rattle.std.specs.List.{AllByRecursion}
use Rattle.base64.specs.Engines.{standard, url_safe}
use Rattle.base64.specs.GeneralPurpose.{IsBytes, engine_symbols}
use Rattle.base64.specs.Rfc4648.{encode_symbols}
use Rattle.base64.specs.Tables.{all_below}
use Rattle.base64.proofs.Tables.{all_below_at}

-- the 64 letters of each alphabet
abbrev pub standard_letters : List ℕ
standard_letters = engine_symbols standard

abbrev pub url_safe_letters : List ℕ
url_safe_letters = engine_symbols url_safe

-- neither `-` nor `_`, the letters that the URL-safe alphabet has in place of `+` and `/`
abbrev pub IsNoUrlLetter : ℕ → Type 0
IsNoUrlLetter letter = (letter ≢ 45) × (letter ≢ 95)

-- a letter that no place of a table holds
ne_at : (t : List ℕ) (letter : ℕ) → all_below (λ i. not (slice_index t i == letter)) 64 ≡ true
    → (i : ℕ) → i < 64 → slice_index t i ≢ letter
ne_at t letter all i lt =
    eqb-false (slice_index t i) letter (not-true (slice_index t i == letter) (all_below_at (λ k. not (slice_index t k == letter)) 64 i all lt))

pub standard_lacks_url_letters : (i : ℕ) → i < 64 → IsNoUrlLetter (slice_index standard_letters i)
standard_lacks_url_letters i lt = (ne_at standard_letters 45 refl i lt, ne_at standard_letters 95 refl i lt)

pub standard_lacks_padding : (i : ℕ) → i < 64 → slice_index standard_letters i ≢ 61
standard_lacks_padding = ne_at standard_letters 61 refl

pub url_safe_lacks_padding : (i : ℕ) → i < 64 → slice_index url_safe_letters i ≢ 61
url_safe_lacks_padding = ne_at url_safe_letters 61 refl

-- the letter at a place of the URL-safe table is one of its own two, or the standard one
is_shared : ℕ → Bool
is_shared i = (slice_index url_safe_letters i == 45) || ((slice_index url_safe_letters i == 95) || (slice_index url_safe_letters i == slice_index standard_letters i))

all_shared : all_below is_shared 64 ≡ true
unfolding is_shared
all_shared = refl

pub shared_letter : (i : ℕ) → i < 64 → IsNoUrlLetter (slice_index url_safe_letters i)
    → slice_index url_safe_letters i ≡ slice_index standard_letters i
unfolding is_shared
shared_letter i lt lacks =
    let u = slice_index url_safe_letters i in
    let s = slice_index standard_letters i in
    elim (or_cases (u == 45) ((u == 95) || (u == s)) (all_below_at is_shared 64 i all_shared lt)) [
      | inl minus ↦ absurd (lacks.0 (eqb-true u 45 minus))
      | inr later ↦ elim (or_cases (u == 95) (u == s) later) [
        | inl underscore ↦ absurd (lacks.1 (eqb-true u 95 underscore))
        | inr same ↦ eqb-true u s same
      ]
    ]

-- what holds of each symbol of a table holds of each letter of an encoding
pub encoded_letters : (P : ℕ → Type 0) (t m : List ℕ) → ((i : ℕ) → i < 64 → P (slice_index t i)) → IsBytes m
    → AllByRecursion P (encode_symbols t m)
unfolding encode_symbols
encoded_letters P t [] symbols bytes = tt
encoded_letters P t (a ∷ []) symbols bytes =
    let a_byte : a < 256 = bytes 0 in
    (symbols (a / 4) (omega arith), (symbols (a % 4 * 16) (omega arith), tt))
encoded_letters P t (a ∷ b ∷ []) symbols bytes =
    let a_byte : a < 256 = bytes 0 in
    let b_byte : b < 256 = bytes 1 in
    (symbols (a / 4) (omega arith), (symbols (a % 4 * 16 + b / 16) (omega arith), (symbols (b % 16 * 4) (omega arith), tt)))
encoded_letters P t (a ∷ b ∷ c ∷ rest) symbols bytes =
    let a_byte : a < 256 = bytes 0 in
    let b_byte : b < 256 = bytes 1 in
    let c_byte : c < 256 = bytes 2 in (
      symbols (a / 4) (omega arith),
      (
        symbols (a % 4 * 16 + b / 16) (omega arith),
        (
          symbols (b % 16 * 4 + c / 64) (omega arith),
          (
            symbols (c % 64) (omega arith),
            encoded_letters P t rest symbols (λ i. bytes (suc (suc (suc i)))),
          ),
        ),
      ),
    )

-- two tables that agree where P holds encode alike a message whose letters have P
pub same_encoding : (P : ℕ → Type 0) (t u m : List ℕ) → ((i : ℕ) → i < 64 → P (slice_index u i) → slice_index u i ≡ slice_index t i)
    → IsBytes m → AllByRecursion P (encode_symbols u m) → encode_symbols u m ≡ encode_symbols t m
unfolding encode_symbols
same_encoding P t u [] same bytes all = refl
same_encoding P t u (a ∷ []) same bytes all =
    let a_byte : a < 256 = bytes 0 in
    let first = same (a / 4) (omega arith) all.0 in
    let second = same (a % 4 * 16) (omega arith) all.1.0 in
    cc
same_encoding P t u (a ∷ b ∷ []) same bytes all =
    let a_byte : a < 256 = bytes 0 in
    let b_byte : b < 256 = bytes 1 in
    let first = same (a / 4) (omega arith) all.0 in
    let second = same (a % 4 * 16 + b / 16) (omega arith) all.1.0 in
    let third = same (b % 16 * 4) (omega arith) all.1.1.0 in
    cc
same_encoding P t u (a ∷ b ∷ c ∷ rest) same bytes all =
    let a_byte : a < 256 = bytes 0 in
    let b_byte : b < 256 = bytes 1 in
    let c_byte : c < 256 = bytes 2 in
    let first = same (a / 4) (omega arith) all.0 in
    let second = same (a % 4 * 16 + b / 16) (omega arith) all.1.0 in
    let third = same (b % 16 * 4 + c / 64) (omega arith) all.1.1.0 in
    let fourth = same (c % 64) (omega arith) all.1.1.1.0 in
    let later = same_encoding P t u rest same (λ i. bytes (suc (suc (suc i)))) all.1.1.1.1 in
    cc
