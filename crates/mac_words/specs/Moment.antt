-- Moments, as people write them.
use Rattle.std.specs.Prelude.{◌≡◌, ◌⊎◌, ℕ, ◌<◌, ◌^◌, ℤ, pos, List, ◌++◌, codes}
use Rattle.std.specs.Str.Parse.{IsNumeral, digits_value, without_leading_plus}
use Rattle.mac_decide.specs.Time.{IsTimeLimit}

-- the text is a day and a time as a time limit has them, of the second v
abbrev pub IsTime : List ℕ → ℤ → Type 0
IsTime text v = IsTimeLimit (codes "time < " ++ text) v

-- the text is a decimal number of 64 bits, before which a plus may stand
abbrev pub IsSeconds : List ℕ → ℕ → Type 0
IsSeconds text n = IsNumeral 10 (without_leading_plus text)
    × (n ≡ digits_value 10 (without_leading_plus text)) × (n < 2 ^ 64)

-- the text names the moment n, in seconds since 1970: as a time from then on, or else as a number
abbrev pub IsMoment : List ℕ → ℕ → Type 0
IsMoment text n =
    IsTime text (pos n) ⊎ (((v : ℤ) → ¬ (IsTime text v)) × IsSeconds text n)
