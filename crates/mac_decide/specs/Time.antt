-- Bounds of time: the caveats that hold until a second of the calendar, or from one on.
use Rattle.std.specs.Prelude.{◌≡◌, ℕ, ◌+◌, ◌*◌, ◌/◌, ◌%◌, ◌<◌, ◌⊎◌, ℤ, pos, ◌+ℤ◌, ◌*ℤ◌, ◌≤ℤ◌, unsigned_abs, List, [], ◌∷◌, ◌++◌, codes}
use Rattle.jiff.specs.Types.{Date}
use Rattle.jiff.specs.Words.{epoch_day}

-- a day of the Gregorian calendar with a time of day, in UTC
pub record Stamp : Type 0 where
  pub date : Date
  pub hour : ℕ
  pub minute : ℕ
  pub second : ℕ

-- a year from 0000 on, and a time that a clock without leap seconds shows
pub record IsWritable (t : Stamp) : Type 0 where
  pub year : pos 0 ≤ℤ t.date.year
  pub hour : t.hour < 24
  pub minute : t.minute < 60
  pub second : t.second < 60

-- seconds from 1970-01-01T00:00:00 to the stamp
abbrev pub unix_second : Stamp → ℤ
unix_second t =
    (pos 86_400 *ℤ epoch_day t.date) +ℤ pos (3_600 * t.hour + 60 * t.minute + t.second)

-- a number below 100 in two ASCII digits
abbrev pub two_digits : ℕ → List ℕ
two_digits n = (48 + n / 10) ∷ (48 + n % 10) ∷ []

-- a number below 10,000 in four
abbrev pub four_digits : ℕ → List ℕ
four_digits n = two_digits (n / 100) ++ two_digits (n % 100)

-- YYYY-MM-DD, as in ISO 8601
abbrev pub date_text : Date → List ℕ
date_text d =
    four_digits (unsigned_abs d.year) ++ codes "-" ++ two_digits d.month
    ++ codes "-" ++ two_digits d.day

-- HH:MM
abbrev pub clock_text : ℕ → ℕ → List ℕ
clock_text hour minute = two_digits hour ++ codes ":" ++ two_digits minute

-- YYYY-MM-DDTHH:MM, with what follows the minute
abbrev pub stamp_text : Stamp → List ℕ → List ℕ
stamp_text t ending = date_text t.date ++ codes "T" ++ clock_text t.hour t.minute ++ ending

-- :SS, or nothing where the second is 0
abbrev pub SpellsSecond : ℕ → List ℕ → Type 0
SpellsSecond n text = (text ≡ codes ":" ++ two_digits n) ⊎ ((text ≡ []) × (n ≡ 0))

-- Z or nothing
abbrev pub MarksUtc : List ℕ → Type 0
MarksUtc text = (text ≡ codes "Z") ⊎ (text ≡ [])

-- what may follow the minute
abbrev pub IsEnding : ℕ → List ℕ → Type 0
IsEnding n text =
    (second : List ℕ) × (zone : List ℕ) × SpellsSecond n second × MarksUtc zone
    × (text ≡ second ++ zone)

-- the text is that of the stamp
pub record IsStampText (text : List ℕ) (t : Stamp) : Type 0 where
  pub writable : IsWritable t
  pub ending : List ℕ
  pub is_ending : IsEnding t.second ending
  pub is_text : text ≡ stamp_text t ending

-- the text is that of a stamp, and v is its second
abbrev pub IsTimeText : List ℕ → ℤ → Type 0
IsTimeText text v = (t : Stamp) × IsStampText text t × (v ≡ unix_second t)

-- the text is the front and the text of a stamp, and v is its second
abbrev pub IsBound : List ℕ → List ℕ → ℤ → Type 0
IsBound front text v = (time : List ℕ) × (text ≡ front ++ time) × IsTimeText time v

-- the text is a time limit, and v is its second
abbrev pub IsTimeLimit : List ℕ → ℤ → Type 0
IsTimeLimit = IsBound (codes "time < ")

-- the text is a lower bound of time, and v is its second
abbrev pub IsLowerBound : List ℕ → ℤ → Type 0
IsLowerBound = IsBound (codes "time >= ")
