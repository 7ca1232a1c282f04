use Rattle.std.proofs.Common.{arith, rules, FitsSigned, w32}
use Rattle.std.proofs.lemmas.Int.{ints, to_z-of_z}
use Rattle.mac_decide.proofs.DateLemmas.{no_year, no_month, no_day, whole_date}
use Rattle.mac_decide.proofs.time.day_number.Goals as goal

pub returns-in_err-year : goal.returns-in_err-year
returns-in_err-year c = rw c.from_residual.ensures (no_year _ c.in_err-year.ensures)

pub returns-in_err-month : goal.returns-in_err-month
returns-in_err-month c =
    rw c.from_residual-in_err-month.ensures
    (λ d rest low. no_month _ _ _ c.in_ok-year.ensures.1 c.in_err-month.ensures d rest)

pub returns-in_err-day : goal.returns-in_err-day
returns-in_err-day c =
    rw c.from_residual-in_err-day.ensures
    (λ d rest low. no_day _ _ _ _ _ c.in_ok-year.ensures.1 c.in_ok-month.ensures.1 c.in_err-day.ensures d rest)

pub returns : goal.returns
returns c =
    let t = c.in_ok-calendar_day.ensures in
    let fits : FitsSigned w32 c.in_ok-calendar_day.field-0 = search rules in (
      t.0,
      rw t.1.0 (omega (arith, ints)),
      rw to_z-of_z t.2,
      whole_date _ _ _ _ _ _ _ c.in_ok-year.ensures.1 c.in_ok-month.ensures.1 c.in_ok-day.ensures.1 t.0 t.1,
    )
