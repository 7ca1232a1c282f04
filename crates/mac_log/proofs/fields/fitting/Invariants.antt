use Rattle.std.proofs.Common.{◌≡◌, ◌+◌, drop}
use Rattle.mac_log.specs.Fields.{fitting}
use Rattle.mac_log.proofs.fields.fitting.Given as goal

abbrev pub invariant-loop-place : goal.invariant-loop-place
invariant-loop-place l = fitting l.fn.room l.value ≡ l.place + fitting l.left (drop l.place l.value)
