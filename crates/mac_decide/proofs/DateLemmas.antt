-- What the text of a date tells of the date.
use Rattle.std.proofs.Common.{◌≡◌, ℕ, ◌+◌, ◌/◌, ◌%◌, ◌<◌, ℤ, pos, ◌≤ℤ◌, unsigned_abs, List, ◌∷◌, ◌++◌, arith}
use Rattle.std.proofs.lemmas.Int.{ints}
use Rattle.jiff.specs.Types.{Date as PlainDate}
use Rattle.jiff.specs.Words.{IsYear, IsYmd}
use Rattle.mac_decide.specs.Time.{two_digits, four_digits, date_text}

-- two numbers with the same last digit and the same rest
pub same_digits : (n m : ℕ) → 48 + n / 10 ≡ 48 + m / 10 → 48 + n % 10 ≡ 48 + m % 10 → n ≡ m
same_digits n m tens ones = omega arith

pub same_four : (n m : ℕ) → 48 + n / 100 / 10 ≡ 48 + m / 100 / 10 → 48 + n / 100 % 10 ≡ 48 + m / 100 % 10 → 48 + n % 100 / 10 ≡ 48 + m % 100 / 10 → 48 + n % 100 % 10 ≡ 48 + m % 100 % 10 → n ≡ m
same_four n m a b c d =
    let high : n / 100 ≡ m / 100 = same_digits _ _ a b in
    let low : n % 100 ≡ m % 100 = same_digits _ _ c d in
    omega arith

pub year_fits : (d : PlainDate) → pos 0 ≤ℤ d.year → unsigned_abs d.year < 10_000
year_fits d low = let y : IsYear d.year = d.year_in in omega (arith, ints)

pub year_is : (y : ℤ) → pos 0 ≤ℤ y → pos (unsigned_abs y) ≡ y
year_is y low = omega (arith, ints)

pub month_fits : (d : PlainDate) → d.month < 100
month_fits d = omega (arith, d.month_in)

pub day_fits : (d : PlainDate) → d.day < 100
day_fits d = grind (arith, d.day_in)

-- what a date's text begins with
pub no_year : (text : List ℕ) → ((n : ℕ) → (rest : List ℕ) → n < 10_000 → ¬ (text ≡ four_digits n ++ rest)) → (d : PlainDate) → (rest : List ℕ) → pos 0 ≤ℤ d.year → ¬ (text ≡ date_text d ++ rest)
no_year text none d rest low e = none (unsigned_abs d.year) _ (year_fits d low) e

-- behind a year, no month
pub no_month : (text after : List ℕ) (y : ℕ) → text ≡ four_digits y ++ after → ((n : ℕ) → (rest : List ℕ) → n < 100 → ¬ (after ≡ 45 ∷ two_digits n ++ rest)) → (d : PlainDate) → (rest : List ℕ) → ¬ (text ≡ date_text d ++ rest)
no_month text after y first none d rest e =
    let same : after ≡ 45 ∷ two_digits d.month ++ (45 ∷ two_digits d.day ++ rest) = cc in
    none d.month _ (month_fits d) same

-- behind a month, no day
pub no_day : (text after end : List ℕ) (y m : ℕ) → text ≡ four_digits y ++ after → after ≡ 45 ∷ two_digits m ++ end → ((n : ℕ) → (rest : List ℕ) → n < 100 → ¬ (end ≡ 45 ∷ two_digits n ++ rest)) → (d : PlainDate) → (rest : List ℕ) → ¬ (text ≡ date_text d ++ rest)
no_day text after end y m first second none d rest e =
    let same : end ≡ 45 ∷ two_digits d.day ++ rest = cc in
    none d.day _ (day_fits d) same

-- a year, a month and a day behind one another are the text of their date
pub whole_date : (text after end rest : List ℕ) (y m k : ℕ) → text ≡ four_digits y ++ after → after ≡ 45 ∷ two_digits m ++ end → end ≡ 45 ∷ two_digits k ++ rest → (d : PlainDate) → IsYmd (pos y) (pos m) (pos k) d → text ≡ date_text d ++ rest
whole_date text after end rest y m k first second third d ymd =
    let same_year : y ≡ unsigned_abs d.year = rw ymd.0 in
    let same_month : m ≡ d.month = omega (arith, ints, ymd.1) in
    let same_day : k ≡ d.day = omega (arith, ints, ymd.2) in
    rw (first, second, third, same_year, same_month, same_day)
