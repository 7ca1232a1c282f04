-- How long a line is.
use Rattle.std.proofs.Common.{◌≡◌, ℕ, ◌+◌, ◌≤◌, Bool, true, false, [], ◌∷◌, ◌++◌, length, Some, ℤ, pos, negsuc, refl, arith, length-append}
use Rattle.jiff.specs.Types.{Date, DateTime, Time}
use Rattle.jiff_fmt.specs.Text.{date_text, datetime_text, pad2, places, separator_byte, time_text, year_text}
use Rattle.mac_log.specs.declared.kind.Kind.{Kind}
use Rattle.mac_log.specs.declared.kind.Kind.TheVariants as kind
use Rattle.mac_log.specs.declared.level.Level.{Level}
use Rattle.mac_log.specs.declared.level.Level.TheVariants.{Error, Warning, Info}
use Rattle.mac_log.specs.Level.{level_word, priority_text}
use Rattle.mac_log.specs.Kind.{kind_word}
use Rattle.mac_log.specs.Line.{front_text}

year-short : (y : ℤ) → length (year_text y) ≤ 7
year-short (pos n) = omega arith
year-short (negsuc n) = omega arith

fraction-short : (n : ℕ) → length (places 3 1_000_000_000 n) ≡ 3
unfolding places
fraction-short n = refl

time-short : (t : Time) → length (time_text (Some 3) t) ≡ 12
time-short t =
    let f = fraction-short t.subsec_nanosecond in
    omega arith

date-short : (d : Date) → length (date_text d) ≤ 13
date-short d =
    let y = year-short d.year in
    let a = year_text d.year in
    let b = a ++ 45 ∷ [] in
    let e = b ++ pad2 d.month in
    let f = e ++ 45 ∷ [] in
    let s1 : length b ≡ length a + 1 = length-append a (45 ∷ []) in
    let s2 : length e ≡ length b + 2 = length-append b (pad2 d.month) in
    let s3 : length f ≡ length e + 1 = length-append e (45 ∷ []) in
    let s4 : length (date_text d) ≡ length f + 2 = length-append f (pad2 d.day) in
    omega arith

pub moment-short : (low : Bool) (separator : ℕ) (dt : DateTime) (last : ℕ) → length (datetime_text low separator (Some 3) dt ++ last ∷ []) ≤ 27
moment-short low separator dt last =
    let d = date-short dt.date in
    let t = time-short dt.time in
    let size = length-append (date_text dt.date) (separator_byte low separator ∷ time_text (Some 3) dt.time) in
    let whole = length-append (datetime_text low separator (Some 3) dt) (last ∷ []) in
    omega arith

pub level-short : (l : Level) → length (level_word l) ≤ 7
level-short Error = omega arith
level-short Warning = omega arith
level-short Info = omega arith

pub kind-short : (k : Kind) → length (kind_word k) ≤ 18
kind-short kind.Start = omega arith
kind-short kind.KeysRead = omega arith
kind-short kind.KeysRefused = omega arith
kind-short kind.KeysEmpty = omega arith
kind-short kind.RevokedRead = omega arith
kind-short kind.RevokedRefused = omega arith
kind-short kind.ConnectionFault = omega arith
kind-short kind.ConnectionIdle = omega arith
kind-short kind.ConnectionDropped = omega arith
kind-short kind.LimitReached = omega arith
kind-short kind.LimitLow = omega arith
kind-short kind.AcceptFault = omega arith
kind-short kind.SystemFault = omega arith
kind-short kind.Request = omega arith
kind-short kind.Mint = omega arith
kind-short kind.Replaced = omega arith
kind-short kind.Drain = omega arith
kind-short kind.End = omega arith
kind-short kind.LeftOut = omega arith

priority-short : (l : Level) → length (priority_text l) ≤ 3
priority-short Error = omega arith
priority-short Warning = omega arith
priority-short Info = omega arith

pub front-short : (has : Bool) (l : Level) → length (front_text has l) ≤ 3
front-short true l = priority-short l
front-short false l = omega arith
