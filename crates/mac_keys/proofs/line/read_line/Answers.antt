use Rattle.std.proofs.Common.{sym, ap, ◌∙◌}
use Rattle.std.specs.Prelude.{Err}
use Rattle.mac_keys.proofs.Pairs.{handed_on, HasPairs-from_fields}
use Rattle.mac_keys.proofs.line.read_line.Goals as goal

pub returns-in_err-secret-clause-memory : goal.returns-in_err-secret-clause-memory
returns-in_err-secret-clause-memory c memory =
    let wanting = handed_on c.from_residual.result c.in_err-secret.field-0.0 c.from_residual.ensures.1 memory in
    HasPairs-from_fields c.args.line.now c.in-Some.name.now c.in-Some.digits.now
    (sym c.is_name.ensures ∙ c.if-not-is_name.false) (sym c.in-Some.ensures) (c.secret.ensures.memory (c.in_err-secret.was ∙ ap Err wanting))
