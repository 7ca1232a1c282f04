use Rattle.std.proofs.Common.{None, rules, ◌∙◌, ◌≡◌, FitsSigned, w32, w64}
use Rattle.std.proofs.lemmas.Int.{to_z-of_z}
use Rattle.mac_decide.specs.Time.{Stamp, IsWritable, unix_second}
use Rattle.mac_decide.proofs.TimeLemmas.{time-exact, no_date, no_clock, no_second, text_of_parts}
use Rattle.mac_decide.proofs.time.time_second.Goals as goal

pub returns-in_err-day : goal.returns-in_err-day
returns-in_err-day c =
    rw c.from_residual.ensures (time-exact _ None (no_date _ c.in_err-day.ensures))

pub returns-in_err-minute_start : goal.returns-in_err-minute_start
returns-in_err-minute_start c =
    let day = c.in_ok-day.ensures in
    rw c.from_residual-in_err-minute_start.ensures
    (time-exact _ None (no_clock _ _ day.0 day.3 c.in_err-minute_start.ensures))

pub returns-in_err-second : goal.returns-in_err-second
returns-in_err-second c =
    let day = c.in_ok-day.ensures in
    let clock = c.in_ok-minute_start.ensures in
    rw c.from_residual-in_err-second.ensures
    (time-exact _ None (no_second _ _ _ day.0 clock.0 clock.1 day.3 clock.5 c.in_err-second.ensures))

pub returns : goal.returns
returns c =
    let day = c.in_ok-day.ensures in
    let clock = c.in_ok-minute_start.ensures in
    let second = c.in_ok-second.ensures in
    let stamp : Stamp = record { date = day.0; hour = clock.0; minute = clock.1; second = c.in_ok-second.second } in
    let writable : IsWritable stamp = record { year = day.1; hour = clock.2; minute = clock.3; second = second.0 } in
    let text = text_of_parts _ _ _ stamp writable day.3 clock.5 second.1 in
    let fits_day : FitsSigned w32 c.in_ok-day.day = search rules in
    let fits : FitsSigned w64 c.seconds_since_epoch.result = search rules in
    let value : c.seconds_since_epoch.result ≡ unix_second stamp = c.seconds_since_epoch.ensures ∙ rw (to_z-of_z, day.2, clock.4) in
    time-exact _ _ (stamp, text, rw to_z-of_z value)
