-- The definitions of bounds of time and verdicts as functions, for the reply to each job.
use Rattle.std.specs.Prelude.{◌≡◌, refl, ℕ, zero, suc, ◌+◌, ◌-◌, ◌*◌, ℤ, pos, List, [], ◌∷◌, ◌++◌, codes, slice_index, length, drop, Option, Some, None, Bool, true, false, ◌&&◌, ◌||◌, nat_lt, int_lt, int_le, if◌then◌else◌}
use Rattle.std.specs.List.{list_any}
use Rattle.std.specs.Str.{bytes_eq}
use Rattle.jiff.specs.Types.{Date}
use Rattle.mac_hmac.specs.Chain.{chain}
use Rattle.mac_token.specs.RawToken.{TokenParts}
use Rattle.mac_decide.specs.Calendar.{is_date, year_in, month_in, day_in}
use Rattle.mac_decide.specs.Time.{Stamp, unix_second, two_digits, stamp_text}
use Rattle.mac_decide.specs.declared.context.Context.{Context}
use Rattle.mac_decide.specs.declared.verdict.Verdict.{Verdict}
use Rattle.mac_decide.specs.declared.verdict.Verdict.TheVariants.{Granted, BadSignature, Unsatisfied}

-- the date of a year, a month and a day, where the calendar has it
abbrev pub date_if : (y m d : ℕ) (b : Bool) → is_date y m d ≡ b → Option Date
date_if y m d true h =
    Some (record {
      year = pos y;
      month = m;
      day = d;
      year_in = year_in y m d h;
      month_in = month_in y m d h;
      day_in = day_in y m d h;
    })
date_if y m d false h = None

abbrev pub date_of : ℕ → ℕ → ℕ → Option Date
date_of y m d = date_if y m d (is_date y m d) refl

-- the number in the two digits from a place on
abbrev pub two_at : List ℕ → ℕ → ℕ
two_at text i = 10 * (slice_index text i - 48) + (slice_index text (i + 1) - 48)

-- the time of day at the places that a stamp's text has for it; where none stands for the second,
-- it reads as 0
abbrev pub stamp_at : List ℕ → Date → Stamp
stamp_at text d =
    record { date = d; hour = two_at text 11; minute = two_at text 14; second = two_at text 17 }

-- the endings that leave out a second of 0
abbrev pub short_endings : ℕ → List (List ℕ)
short_endings zero = [] ∷ codes "Z" ∷ []
short_endings (suc n) = []

-- the texts that may follow the minute
abbrev pub endings : ℕ → List (List ℕ)
endings n = (codes ":" ++ two_digits n) ∷ (codes ":" ++ two_digits n ++ codes "Z") ∷ short_endings n

-- whether the text is that of the stamp
abbrev pub is_stamp_text : List ℕ → Stamp → Bool
is_stamp_text text t = nat_lt t.hour 24 && nat_lt t.minute 60 && nat_lt t.second 60
    && list_any (λ ending. bytes_eq text (stamp_text t ending)) (endings t.second)

-- the second of the stamp, at the date that was read
abbrev pub time_on : List ℕ → Option Date → Option ℤ
time_on text None = None
time_on text (Some d) =
    if is_stamp_text text (stamp_at text d) then Some (unix_second (stamp_at text d)) else None

-- the second of a stamp: its numbers stand at their places, and the text is what they spell
unfoldable pub time_of : List ℕ → Option ℤ
time_of text =
    let year = 100 * two_at text 0 + two_at text 2 in
    time_on text (date_of year (two_at text 5) (two_at text 8))

-- the second of the stamp behind the front, where the text has that front
abbrev pub bound_of : List ℕ → List ℕ → Option ℤ
bound_of front text =
    let time = drop (length front) text in
    if bytes_eq text (front ++ time) then time_of time else None

-- the second of a time limit
unfoldable pub limit_of : List ℕ → Option ℤ
limit_of text = bound_of (codes "time < ") text

-- the second of a lower bound of time
unfoldable pub since_of : List ℕ → Option ℤ
since_of text = bound_of (codes "time >= ") text

-- whether the moment is below the limit, where there is one
abbrev pub is_below : ℕ → Option ℤ → Bool
is_below moment None = false
is_below moment (Some limit) = int_lt (pos moment) limit

-- whether the moment isn't below the lower bound, where there is one
abbrev pub is_from : ℕ → Option ℤ → Bool
is_from moment None = false
is_from moment (Some bound) = int_le bound (pos moment)

-- whether the caveat is satisfied
unfoldable pub is_satisfied : List ℕ → Context → Bool
is_satisfied caveat x = list_any (bytes_eq caveat) x.facts
    || (is_below x.moment (limit_of caveat) || is_from x.moment (since_of caveat))

-- the verdict on the caveats from an index on
unfoldable pub caveats_verdict : Context → ℕ → List (List ℕ) → Verdict
caveats_verdict x index [] = Granted
caveats_verdict x index (caveat ∷ caveats) =
    if is_satisfied caveat x then caveats_verdict x (index + 1) caveats else Unsatisfied index

-- whether the chain of one of the keys gives the signature
abbrev pub is_minted : List (List ℕ) → TokenParts → Bool
is_minted keys t = list_any (λ key. bytes_eq t.sig (chain key t.identifier t.caveats)) keys

-- the verdict on a token
unfoldable pub verdict_of : List (List ℕ) → TokenParts → Context → Verdict
verdict_of keys t x = if is_minted keys t then caveats_verdict x 0 t.caveats else BadSignature
