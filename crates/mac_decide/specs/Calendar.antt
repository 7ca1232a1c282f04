-- The days that the calendar has.
use Rattle.std.specs.Prelude.{◌≡◌, ℕ, pos, Bool, true, ◌&&◌, nat_le}
use Rattle.std.specs.Int.{IsInRange}
use Rattle.std.proofs.Math.Facts.{yes_leb}
use Rattle.std.proofs.lemmas.Bool.{and_parts, leb-true}
use Rattle.jiff.specs.Words.{IsYear, days_in_month}

-- whether n lies from low to high, both included
abbrev pub is_between : ℕ → ℕ → ℕ → Bool
is_between low high n = nat_le low n && nat_le n high

-- whether the year has the day of the month
abbrev pub is_day : ℕ → ℕ → ℕ → Bool
is_day y m d = is_between 1 12 m && is_between 1 (days_in_month (pos y) m) d

-- whether the calendar has the day
abbrev pub is_date : ℕ → ℕ → ℕ → Bool
is_date y m d = nat_le y 9999 && is_day y m d

-- what the tests tell
between : (low high n : ℕ) → is_between low high n ≡ true → IsInRange low high n
between low high n h =
    let both = and_parts (nat_le low n) (nat_le n high) h in
    (leb-true low n both.0, leb-true n high both.1)

month_and_day : (y m d : ℕ) → is_date y m d ≡ true → is_day y m d ≡ true
month_and_day y m d h = (and_parts (nat_le y 9999) (is_day y m d) h).1

pub year_in : (y m d : ℕ) → is_date y m d ≡ true → IsYear (pos y)
year_in y m d h =
    let year = (and_parts (nat_le y 9999) (is_day y m d) h).0 in
    (record { le = tt }, record { le = yes_leb (leb-true y 9999 year) })

pub month_in : (y m d : ℕ) → is_date y m d ≡ true → IsInRange 1 12 m
month_in y m d h =
    let last = days_in_month (pos y) m in
    between 1 12 m (and_parts (is_between 1 12 m) (is_between 1 last d) (month_and_day y m d h)).0

pub day_in : (y m d : ℕ) → is_date y m d ≡ true → IsInRange 1 (days_in_month (pos y) m) d
day_in y m d h =
    let last = days_in_month (pos y) m in
    between 1 last d (and_parts (is_between 1 12 m) (is_between 1 last d) (month_and_day y m d h)).1
