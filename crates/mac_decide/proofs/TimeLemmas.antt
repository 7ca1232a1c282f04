-- What the text of a time tells of its second, and of a bound of time the text behind its front.
use Rattle.std.proofs.Common.{◌≡◌, ◌≢◌, ◌↔◌, inl, inr, ℕ, ◌<◌, ℤ, pos, ◌≤ℤ◌, unsigned_abs, List, [], ◌∷◌, ◌++◌, get_or, drop, codes, Option, Some, None, MatchOption, arith, sym, ap, ◌∙◌}
use Rattle.std.proofs.lemmas.Int.{ints}
use Rattle.jiff.specs.Types.{Date as PlainDate}
use Rattle.jiff.specs.Words.{epoch_day}
use Rattle.mac_decide.specs.Time.{Stamp, two_digits, date_text, clock_text, stamp_text, MarksUtc, IsEnding, IsWritable, IsStampText, IsTimeText, IsBound}
use Rattle.mac_decide.proofs.DateLemmas.{same_digits, same_four}

-- a second that is written isn't one that is left out
pub not_left_out : (n : ℕ) (rest zone : List ℕ) → MarksUtc zone → ¬ (58 ∷ two_digits n ++ rest ≡ zone)
not_left_out n rest zone (inl z) e = cc
not_left_out n rest zone (inr none) e = cc

-- one text ends in one second
pub same_second : (n m : ℕ) (text : List ℕ) → IsEnding n text → IsEnding m text → n ≡ m
same_second n m text (a, z, inl p, zone, e) (b, y, inl q, other, f) = same_digits n m (cc) (cc)
same_second n m text (a, z, inl p, zone, e) (b, y, inr q, other, f) = absurd (not_left_out n z y other (cc (p, e, f, q.0)))
same_second n m text (a, z, inr p, zone, e) (b, y, inl q, other, f) = absurd (not_left_out m y z zone (cc (q, e, f, p.0)))
same_second n m text (a, z, inr p, zone, e) (b, y, inr q, other, f) = p.1 ∙ sym q.1

-- dates with the same text are of one day
pub same_day : (d e : PlainDate) → pos 0 ≤ℤ d.year → pos 0 ≤ℤ e.year → unsigned_abs d.year ≡ unsigned_abs e.year → d.month ≡ e.month → d.day ≡ e.day → epoch_day d ≡ epoch_day e
same_day d e low low' year month day =
    let y : d.year ≡ e.year = omega (arith, ints) in
    rw (y, month, day)

-- the digits of a stamp stand at fixed places
same_digit : (i : ℕ) (xs ys : List ℕ) → xs ≡ ys → get_or xs i 0 ≡ get_or ys i 0
same_digit i xs ys e = ap (λ l. get_or l i 0) e

same_date : (t u : Stamp) (x y : List ℕ) → stamp_text t x ≡ stamp_text u y → (unsigned_abs t.date.year ≡ unsigned_abs u.date.year) × (t.date.month ≡ u.date.month) × (t.date.day ≡ u.date.day)
same_date t u x y e = (
  same_four _ _ (same_digit 0 _ _ e) (same_digit 1 _ _ e) (same_digit 2 _ _ e) (same_digit 3 _ _ e),
  same_digits _ _ (same_digit 5 _ _ e) (same_digit 6 _ _ e),
  same_digits _ _ (same_digit 8 _ _ e) (same_digit 9 _ _ e),
)

same_clock : (t u : Stamp) (x y : List ℕ) → stamp_text t x ≡ stamp_text u y → (t.hour ≡ u.hour) × (t.minute ≡ u.minute) × (x ≡ y)
same_clock t u x y e = (
  same_digits _ _ (same_digit 11 _ _ e) (same_digit 12 _ _ e),
  same_digits _ _ (same_digit 14 _ _ e) (same_digit 15 _ _ e),
  ap (drop 16) e,
)

-- one text is of one second
pub one_time : (text : List ℕ) (v w : ℤ) → IsTimeText text v → IsTimeText text w → v ≡ w
one_time text v w (t, h, e) (u, k, f) =
    let both : stamp_text t h.ending ≡ stamp_text u k.ending = sym h.is_text ∙ k.is_text in
    let dates = same_date t u h.ending k.ending both in
    let clocks = same_clock t u h.ending k.ending both in
    let second : t.second ≡ u.second = same_second _ _ k.ending (rw clocks.2 at h.is_ending) k.is_ending in
    let date = same_day t.date u.date h.writable.year k.writable.year dates.0 dates.1 dates.2 in
    rw (e, f, date, clocks.0, clocks.1, second)

-- what is found, or that there is none, makes the answer exact
pub time-exact : (text : List ℕ) (r : Option ℤ) → MatchOption r ((v : ℤ) → ¬ (IsTimeText text v)) (IsTimeText text) → (v : ℤ) → (r ≡ Some v) ↔ IsTimeText text v
time-exact text None none v = ((λ e. cc), (λ h. absurd (none v h)))
time-exact text (Some w) found v =
    ((λ (e : Some w ≡ Some v). let same : w ≡ v = cc in rw same at found), (λ h. ap Some (one_time text w v found h)))

-- where no date is at the front
pub no_date : (text : List ℕ) → ((d : PlainDate) → (rest : List ℕ) → pos 0 ≤ℤ d.year → ¬ (text ≡ date_text d ++ rest)) → (v : ℤ) → ¬ (IsTimeText text v)
no_date text none v (t, h, e) = none t.date _ h.writable.year h.is_text

-- where no time of day follows the date
pub no_clock : (text end : List ℕ) (d : PlainDate) → text ≡ date_text d ++ end → ((hour minute : ℕ) → (rest : List ℕ) → hour < 24 → minute < 60 → ¬ (end ≡ codes "T" ++ clock_text hour minute ++ rest)) → (v : ℤ) → ¬ (IsTimeText text v)
no_clock text end d date none v (t, h, e) =
    none t.hour t.minute _ h.writable.hour h.writable.minute (ap (drop 10) (sym date ∙ h.is_text))

-- where something else follows the minute
pub no_second : (text end last : List ℕ) (d : PlainDate) (hour minute : ℕ) → text ≡ date_text d ++ end → end ≡ codes "T" ++ clock_text hour minute ++ last → ((n : ℕ) → n < 60 → ¬ (IsEnding n last)) → (v : ℤ) → ¬ (IsTimeText text v)
no_second text end last d hour minute date clock none v (t, h, e) =
    let both : date_text d ++ (codes "T" ++ clock_text hour minute ++ last) ≡ text = rw (← clock) (sym date) in
    let same : last ≡ h.ending = ap (drop 16) (both ∙ h.is_text) in
    none t.second h.writable.second (rw same h.is_ending)

-- the parts, one behind the other, are the text of a stamp
pub text_of_parts : (text end last : List ℕ) (t : Stamp) → IsWritable t → text ≡ date_text t.date ++ end → end ≡ codes "T" ++ clock_text t.hour t.minute ++ last → IsEnding t.second last → IsStampText text t
text_of_parts text end last t writable date clock ending =
    record { writable = writable; ending = last; is_ending = ending; is_text = rw (date, clock) }

-- behind the front stands what stands there
behind : (front time other : List ℕ) → front ++ time ≡ front ++ other → time ≡ other
behind [] time other e = e
behind (x ∷ front) time other e = behind front time other (cc)

-- one text behind one front is of one second
pub one_bound : (front text : List ℕ) (v w : ℤ) → IsBound front text v → IsBound front text w → v ≡ w
one_bound front text v w (time, e, h) (other, f, k) =
    one_time other v w (rw (behind front time other (sym e ∙ f)) at h) k

-- a text without the front is no bound
pub no_front : (front text : List ℕ) → ((rest : List ℕ) → text ≢ front ++ rest) → (v : ℤ) → (◌≡◌ {A = Option ℤ} None (Some v)) ↔ IsBound front text v
no_front front text none v = ((λ e. absurd (cc)), (λ (time, e, h). absurd (none time e)))

-- a text with the front is a bound by what stands behind it
pub bound-exact : (front text time : List ℕ) (r : Option ℤ) → text ≡ front ++ time → ((v : ℤ) → (r ≡ Some v) ↔ IsTimeText time v) → (v : ℤ) → (r ≡ Some v) ↔ IsBound front text v
bound-exact front text time r e exact v = (
  (λ is. (time, e, (exact v).0 is)),
  (λ (other, f, h). (exact v).1 (rw (behind front other time (sym f ∙ e)) at h)),
)
