use Rattle.std.proofs.Common.{arith, rules, ap, ◌∙◌, FitsSigned, w32}
use Rattle.std.proofs.lemmas.Int.{ints, to_z-of_z}
use Rattle.jiff.specs.Words.{epoch_day}
use Rattle.mac_decide.proofs.time.calendar_day.Goals as goal

pub returns-in-Ok : goal.returns-in-Ok
returns-in-Ok c =
    let ymd = c.in-Ok.ensures.value in (
      c.in-Ok.date,
      (omega (arith, ints, ymd.0), omega (arith, ints, ymd.1), omega (arith, ints, ymd.2)),
      (let fits : FitsSigned w32 c.to_unix_epoch_day.result = search rules in
          rw to_z-of_z (c.to_unix_epoch_day.ensures.value ∙ ap epoch_day c.to_plain.ensures)),
    )
