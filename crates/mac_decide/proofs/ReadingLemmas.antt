-- A text is a bound of time exactly where it reads as one.
use Rattle.std.proofs.Common.{◌≡◌, ◌↔◌, ◌⊎◌, inl, inr, ℕ, zero, suc, ◌+◌, ◌-◌, ◌*◌, ◌/◌, ◌%◌, ◌≤◌, ℤ, pos, ◌≤ℤ◌, unsigned_abs, List, [], ◌∷◌, ◌++◌, length, drop, codes, slice_index, Option, Some, None, option_map, Bool, true, false, ◌||◌, ◌&&◌, if◌then◌else◌, nat_lt, arith, refl, sym, ap, ◌∙◌}
use Rattle.std.specs.List.{list_any}
use Rattle.std.specs.Int.{IsInRange}
use Rattle.std.specs.Str.{bytes_eq}
use Rattle.std.proofs.lemmas.Bool.Decides.{nat_tests}
use Rattle.std.proofs.lemmas.Int.{ints}
use Rattle.std.proofs.lemmas.Slice.Eq.{bytes_eq-Decides}
use Rattle.jiff.specs.Types.{Date}
use Rattle.jiff.specs.Words.{IsYear, days_in_month, epoch_day}
use Rattle.mac_decide.specs.Calendar.{is_date}
use Rattle.mac_decide.specs.Time.{Stamp, unix_second, two_digits, date_text, clock_text, IsEnding, IsStampText, IsTimeText, IsBound, IsTimeLimit, IsLowerBound}
use Rattle.mac_decide.specs.Reading.{date_if, date_of, two_at, stamp_at, short_endings, endings, is_stamp_text, time_on, time_of, bound_of, limit_of, since_of}
use Rattle.mac_decide.proofs.DateLemmas.{year_is}

-- a date that was made has the numbers that it was made of
pub numbers-date_if : (y m d : ℕ) (b : Bool) (h : is_date y m d ≡ b) (x : Date) → date_if y m d b h ≡ Some x → (pos y ≡ x.year) × (m ≡ x.month) × (d ≡ x.day)
numbers-date_if y m d true h x e =
    let year = ap (option_map (λ (a : Date). a.year)) e in
    let month = ap (option_map (λ (a : Date). a.month)) e in
    let day = ap (option_map (λ (a : Date). a.day)) e in
    (cc, cc, cc)
numbers-date_if y m d false h x e = absurd (cc)

-- where the calendar has the day, a date is made
pub made-date_if : (y m d : ℕ) (b : Bool) (h : is_date y m d ≡ b) → is_date y m d ≡ true → (x : Date) × (date_if y m d b h ≡ Some x)
made-date_if y m d true h e = (_, refl)
made-date_if y m d false h e = absurd (cc)

-- the numbers of a date from the year 0 on make a day of the calendar
pub is_date-of : (x : Date) → pos 0 ≤ℤ x.year → is_date (unsigned_abs x.year) x.month x.day ≡ true
is_date-of x low =
    let y : IsYear x.year = x.year_in in
    let year : unsigned_abs x.year ≤ 9999 = omega (arith, ints) in
    let month : IsInRange 1 12 x.month = x.month_in in
    let day : IsInRange 1 (days_in_month (pos (unsigned_abs x.year)) x.month) x.day = x.day_in in
    grind (arith, nat_tests)

-- one of two tests passes
pub or-cases : (a b : Bool) → (a || b) ≡ true → (a ≡ true) ⊎ (b ≡ true)
or-cases true b e = inl refl
or-cases false b e = inr e

pub or-left : (a b : Bool) → a ≡ true → (a || b) ≡ true
or-left a b e = rw e

pub or-right : (a b : Bool) → b ≡ true → (a || b) ≡ true
or-right true b e = refl
or-right false b e = e

-- an ending without a second that the test finds
found-short : (text front : List ℕ) (n : ℕ) → list_any (λ ending. bytes_eq text (front ++ ending)) (short_endings n) ≡ true → (ending : List ℕ) × IsEnding n ending × (text ≡ front ++ ending)
found-short text front zero e = elim (or-cases _ _ e) [
  | inl whole ↦ ([], ([], [], inr (refl, refl), inr refl, refl), (bytes_eq-Decides _ _).0 whole)
  | inr more ↦ elim (or-cases _ _ more) [
    | inl whole ↦ (codes "Z", ([], codes "Z", inr (refl, refl), inl refl, refl), (bytes_eq-Decides _ _).0 whole)
    | inr none ↦ absurd (cc)
  ]
]
found-short text front (suc n) e = absurd (cc)

-- an ending that the test finds
pub found-ending : (text front : List ℕ) (n : ℕ) → list_any (λ ending. bytes_eq text (front ++ ending)) (endings n) ≡ true → (ending : List ℕ) × IsEnding n ending × (text ≡ front ++ ending)
found-ending text front n e = elim (or-cases _ _ e) [
  | inl whole ↦ (_, (_, [], inl refl, inr refl, refl), (bytes_eq-Decides _ _).0 whole)
  | inr more ↦ elim (or-cases _ _ more) [
    | inl whole ↦ (_, (_, _, inl refl, inl refl, refl), (bytes_eq-Decides _ _).0 whole)
    | inr rest ↦ found-short text front n rest
  ]
]

-- an ending is found by the test
pub ending-found : (text front : List ℕ) (n : ℕ) (ending : List ℕ) → IsEnding n ending → text ≡ front ++ ending → list_any (λ e. bytes_eq text (front ++ e)) (endings n) ≡ true
ending-found text front n ending (second, zone, inl p, inr none, e) whole =
    let same : bytes_eq text (front ++ (codes ":" ++ two_digits n)) ≡ true = (bytes_eq-Decides text (front ++ (codes ":" ++ two_digits n))).1 (rw (whole, e, p, none)) in
    or-left _ _ same
ending-found text front n ending (second, zone, inl p, inl z, e) whole =
    let same : bytes_eq text (front ++ (codes ":" ++ two_digits n ++ codes "Z")) ≡ true = (bytes_eq-Decides text (front ++ (codes ":" ++ two_digits n ++ codes "Z"))).1 (rw (whole, e, p, z)) in
    or-right _ _ (or-left _ _ same)
ending-found text front n ending (second, zone, inr (nil, zero_is), inr none, e) whole =
    let same : bytes_eq text (front ++ []) ≡ true = (bytes_eq-Decides text (front ++ [])).1 (rw (whole, e, nil, none)) in
    rw zero_is (or-right _ _ (or-right _ _ (or-left _ _ same)))
ending-found text front n ending (second, zone, inr (nil, zero_is), inl z, e) whole =
    let same : bytes_eq text (front ++ codes "Z") ≡ true = (bytes_eq-Decides text (front ++ codes "Z")).1 (rw (whole, e, nil, z)) in
    rw zero_is (or-right (bytes_eq text (front ++ (codes ":" ++ two_digits 0))) _
    (or-right (bytes_eq text (front ++ (codes ":" ++ two_digits 0 ++ codes "Z"))) _
    (or-right (bytes_eq text (front ++ [])) _ (or-left (bytes_eq text (front ++ codes "Z")) false same))))

-- the second that an ending tells, at its places
pub second_at : (n : ℕ) (ending : List ℕ) → IsEnding n ending → 10 * (slice_index ending 1 - 48) + (slice_index ending 2 - 48) ≡ n
second_at n ending (second, zone, inl p, z, e) = rw (e, p) (omega arith)
second_at n ending (second, zone, inr (nil, zero_is), inl z, e) = rw (e, nil, z, zero_is)
second_at n ending (second, zone, inr (nil, zero_is), inr z, e) = rw (e, nil, z, zero_is)

-- the numbers of a stamp stand at their places
pub record StandsIn (text : List ℕ) (t : Stamp) : Type 0 where
  pub year : 100 * two_at text 0 + two_at text 2 ≡ unsigned_abs t.date.year
  pub month : two_at text 5 ≡ t.date.month
  pub day : two_at text 8 ≡ t.date.day
  pub hour : two_at text 11 ≡ t.hour
  pub minute : two_at text 14 ≡ t.minute
  pub second : two_at text 17 ≡ t.second

pub two_at-is : (n : ℕ) → 10 * ((48 + n / 10) - 48) + ((48 + n % 10) - 48) ≡ n
two_at-is n = omega arith

pub at_place : (i n : ℕ) (text other : List ℕ) → text ≡ other → two_at other i ≡ n → two_at text i ≡ n
at_place i n text other e h = ap (λ l. two_at l i) e ∙ h

pub StandsIn-of : (text : List ℕ) (t : Stamp) → IsStampText text t → StandsIn text t
StandsIn-of text t h =
    let high : two_at text 0 ≡ unsigned_abs t.date.year / 100 = at_place 0 _ _ _ h.is_text (two_at-is _) in
    let low : two_at text 2 ≡ unsigned_abs t.date.year % 100 = at_place 2 _ _ _ h.is_text (two_at-is _) in
    record {
      year = omega arith;
      month = at_place 5 _ _ _ h.is_text (two_at-is _);
      day = at_place 8 _ _ _ h.is_text (two_at-is _);
      hour = at_place 11 _ _ _ h.is_text (two_at-is _);
      minute = at_place 14 _ _ _ h.is_text (two_at-is _);
      second = at_place 17 _ _ _ h.is_text (second_at _ _ h.is_ending);
    }

-- the text of a stamp up to the minute
abbrev front_of : Stamp → List ℕ
front_of t = date_text t.date ++ codes "T" ++ clock_text t.hour t.minute

-- three tests and a fourth
pub all_pass : (a b c d : Bool) → a ≡ true → b ≡ true → c ≡ true → d ≡ true → (a && b && c && d) ≡ true
all_pass a b c d p q r s = rw (p, q, r, s)

pub each_passes : (a b c d : Bool) → (a && b && c && d) ≡ true → (a ≡ true) × (b ≡ true) × (c ≡ true) × (d ≡ true)
each_passes true true true d e = (refl, refl, refl, e)
each_passes true true false d e = absurd (cc)
each_passes true false c d e = absurd (cc)
each_passes false b c d e = absurd (cc)

-- the text of a stamp passes the test
pub is_stamp_text-of : (text : List ℕ) (t : Stamp) → IsStampText text t → is_stamp_text text t ≡ true
is_stamp_text-of text t h =
    let hour : nat_lt t.hour 24 ≡ true = grind (arith, nat_tests, h.writable.hour) in
    let minute : nat_lt t.minute 60 ≡ true = grind (arith, nat_tests, h.writable.minute) in
    let second : nat_lt t.second 60 ≡ true = grind (arith, nat_tests, h.writable.second) in
    all_pass _ _ _ _ hour minute second
    (ending-found text (front_of t) t.second h.ending h.is_ending h.is_text)

-- what passes the test is the text of a stamp
pub IsStampText-tested : (text : List ℕ) (t : Stamp) → pos 0 ≤ℤ t.date.year → is_stamp_text text t ≡ true → IsStampText text t
IsStampText-tested text t low e =
    let parts = each_passes (nat_lt t.hour 24) (nat_lt t.minute 60) (nat_lt t.second 60)
    (list_any (λ ending. bytes_eq text (front_of t ++ ending)) (endings t.second)) e in
    let found = found-ending text (front_of t) t.second parts.3 in
    record {
      writable = record { year = low; hour = grind (arith, nat_tests, parts.0); minute = grind (arith, nat_tests, parts.1); second = grind (arith, nat_tests, parts.2) };
      ending = found.0;
      is_ending = found.1;
      is_text = found.2;
    }

-- the stamp of a text with another date of the same numbers
pub restamped : (text : List ℕ) (t : Stamp) (d : Date) → IsStampText text t → t.date.year ≡ d.year → t.date.month ≡ d.month → t.date.day ≡ d.day → IsStampText text (record t { date = d })
restamped text t d h year month day =
    record {
      writable = record { year = rw year at h.writable.year; hour = h.writable.hour; minute = h.writable.minute; second = h.writable.second };
      ending = h.ending;
      is_ending = h.is_ending;
      is_text = rw (← year, ← month, ← day) h.is_text;
    }

-- a test that passes gives the second
time_if : (text : List ℕ) (t : Stamp) → is_stamp_text text t ≡ true → (if is_stamp_text text t then Some (unix_second t) else None) ≡ Some (unix_second t)
time_if text t e = rw e

-- a second that is given passed the test
read_at : (text : List ℕ) (x : Date) (b : Bool) → is_stamp_text text (stamp_at text x) ≡ b → (v : ℤ) → pos 0 ≤ℤ x.year → (if b then Some (unix_second (stamp_at text x)) else None) ≡ Some v → IsTimeText text v
read_at text x true passes v low e = (stamp_at text x, IsStampText-tested text (stamp_at text x) low passes, cc)
read_at text x false passes v low e = absurd (cc)

-- the second at a date that was read
pub time_on-date : (text : List ℕ) (t : Stamp) (d : Date) → StandsIn text t → IsStampText text (record t { date = d }) → epoch_day d ≡ epoch_day t.date → time_on text (Some d) ≡ Some (unix_second t)
time_on-date text t d s there day =
    let same : stamp_at text d ≡ record t { date = d } = rw (s.hour, s.minute, s.second) in
    let passes : is_stamp_text text (stamp_at text d) ≡ true =
    ap (is_stamp_text text) same ∙ is_stamp_text-of text (record t { date = d }) there in
    let value : unix_second (stamp_at text d) ≡ unix_second t = rw (s.hour, s.minute, s.second, day) in
    time_if text (stamp_at text d) passes ∙ ap Some value

-- the second at the date that its numbers make
at_date : (text : List ℕ) (t : Stamp) (y m d : ℕ) → IsStampText text t → y ≡ unsigned_abs t.date.year → m ≡ t.date.month → d ≡ t.date.day → (x : Date) → date_of y m d ≡ Some x → time_on text (date_of y m d) ≡ Some (unix_second t)
at_date text t y m d h year month day x made =
    let numbers = numbers-date_if y m d (is_date y m d) refl x made in
    let low = h.writable.year in
    let same_year : t.date.year ≡ x.year = sym (year_is t.date.year low) ∙ ap pos (sym year) ∙ numbers.0 in
    let same_month : t.date.month ≡ x.month = sym month ∙ numbers.1 in
    let same_day_of : t.date.day ≡ x.day = sym day ∙ numbers.2 in
    let there = restamped text t x h same_year same_month same_day_of in
    let epoch : epoch_day x ≡ epoch_day t.date = rw (same_year, same_month, same_day_of) in
    ap (time_on text) made ∙ time_on-date text t x (StandsIn-of text t h) there epoch

-- the text of a stamp is read as its second
pub time_on-stamp : (text : List ℕ) (t : Stamp) (y m d : ℕ) → IsStampText text t → y ≡ unsigned_abs t.date.year → m ≡ t.date.month → d ≡ t.date.day → time_on text (date_of y m d) ≡ Some (unix_second t)
time_on-stamp text t y m d h year month day =
    let low = h.writable.year in
    let real : is_date y m d ≡ true = rw (year, month, day) (is_date-of t.date low) in
    let (x, made) = made-date_if y m d (is_date y m d) refl real in
    at_date text t y m d h year month day x made

pub time_of-stamp : (text : List ℕ) (t : Stamp) → IsStampText text t → time_of text ≡ Some (unix_second t)
unfolding time_of
time_of-stamp text t h =
    let s = StandsIn-of text t h in
    time_on-stamp text t _ _ _ h s.year s.month s.day

-- what is read is the text of a stamp
pub text-time_on : (text : List ℕ) (y : ℕ) (o : Option Date) (v : ℤ) → ((x : Date) → o ≡ Some x → pos y ≡ x.year) → time_on text o ≡ Some v → IsTimeText text v
text-time_on text y None v year e = absurd (cc)
text-time_on text y (Some x) v year e = read_at text x (is_stamp_text text (stamp_at text x)) refl v (rw (← year x refl) (omega (arith, ints))) e

pub text-time_of : (text : List ℕ) (v : ℤ) → time_of text ≡ Some v → IsTimeText text v
unfolding time_of
text-time_of text v e =
    let y = 100 * two_at text 0 + two_at text 2 in
    let m = two_at text 5 in
    let d = two_at text 8 in
    text-time_on text y (date_of y m d) v (λ x found. (numbers-date_if y m d (is_date y m d) refl x found).0) e

-- a text is that of a stamp exactly where it reads as one
pub time_of-exact : (text : List ℕ) (v : ℤ) → (time_of text ≡ Some v) ↔ IsTimeText text v
time_of-exact text v = (text-time_of text v, (λ (t, h, e). time_of-stamp text t h ∙ ap Some (sym e)))

-- what stands behind a front
drop-front : (front time : List ℕ) → drop (length front) (front ++ time) ≡ time
drop-front [] time = refl
drop-front (x ∷ front) time = drop-front front time

-- the second behind a front, by the test for the front
bound_if : (front text time : List ℕ) (is_front : Bool) (v : ℤ) → bytes_eq text (front ++ time) ≡ is_front → (if is_front then time_of time else None) ≡ Some v → IsBound front text v
bound_if front text time true v e is = (time, (bytes_eq-Decides text (front ++ time)).0 e, (time_of-exact time v).0 is)
bound_if front text time false v e is = absurd (cc)

bound_of-time : (front text time : List ℕ) (v : ℤ) → text ≡ front ++ time → IsTimeText time v → bound_of front text ≡ Some v
bound_of-time front text time v e h =
    let rest : drop (length front) text ≡ time = rw e (drop-front front time) in
    let is : bytes_eq text (front ++ drop (length front) text) ≡ true = (bytes_eq-Decides text (front ++ drop (length front) text)).1 (rw rest e) in
    rw is (ap time_of rest ∙ (time_of-exact time v).1 h)

-- a text is a bound by a front exactly where it reads as one
pub bound_of-exact : (front text : List ℕ) (v : ℤ) → (bound_of front text ≡ Some v) ↔ IsBound front text v
bound_of-exact front text v = (
  (λ e. bound_if front text (drop (length front) text) (bytes_eq text (front ++ drop (length front) text)) v refl e),
  (λ (time, e, h). bound_of-time front text time v e h),
)

pub limit_of-exact : (text : List ℕ) (v : ℤ) → (limit_of text ≡ Some v) ↔ IsTimeLimit text v
unfolding limit_of
limit_of-exact text v = bound_of-exact (codes "time < ") text v

pub since_of-exact : (text : List ℕ) (v : ℤ) → (since_of text ≡ Some v) ↔ IsLowerBound text v
unfolding since_of
since_of-exact text v = bound_of-exact (codes "time >= ") text v
