use Rattle.std.proofs.Common.{List, ℕ, [], Err, subst}
use Rattle.std.proofs.lemmas.Result.{err_from_is_err_and}
use Rattle.mac_token.specs.declared.fault.TokenFault.TheVariants.{Refused}
use Rattle.mac_token.specs.declared.fault.TokenRefusal.TheVariants.{Limit}
use Rattle.mac_token.specs.Push.{with_sig}
use Rattle.mac_token.specs.RawToken.{token_parts}
use Rattle.mac_token.specs.Writes.{Writes}
use Rattle.mac_token.specs.Written.{token_bytes}
use Rattle.mac_token.proofs.WritesLemmas.{write_answers}
use Rattle.mac_token.proofs.writing.write.Goals as goal

pub returns-then-not-may_fit-clause-answer : goal.returns-then-not-may_fit-clause-answer
returns-then-not-may_fit-clause-answer c = write_answers c.args.token.now c.args.form (Err (Refused Limit)) (c.may_fit.ensures.long c.if-not-may_fit.true)

pub returns-in_err-of-clause-written : goal.returns-in_err-of-clause-written
returns-in_err-of-clause-written c =
    let p = err_from_is_err_and c.from_residual.result c.from_residual.ensures.1 in
    rw (p.1, p.2, c.in_err-of.ensures.err) tt

pub returns-in_err-of-clause-answer : goal.returns-in_err-of-clause-answer
returns-in_err-of-clause-answer c = write_answers c.args.token.now c.args.form c.from_residual.result (returns-in_err-of-clause-written c)

pub returns-in_err-of-clause-memory : goal.returns-in_err-of-clause-memory
returns-in_err-of-clause-memory c = λ refused. c.may_fit.ensures.short c.if-not-may_fit.false

pub returns-clause-written : goal.returns-clause-written
returns-clause-written c =
    let t = c.args.token.now in
    subst (λ (sig : List ℕ). Writes (token_bytes (token_parts t.location t.identifier t.caveats sig) c.args.form) c.sign.result) c.sig.ensures
    (c.sign.ensures.writes c.args.form (with_sig t []) c.in_ok-of.ensures.ok)

pub returns-clause-answer : goal.returns-clause-answer
returns-clause-answer c = write_answers c.args.token.now c.args.form c.sign.result (returns-clause-written c)

pub returns-clause-memory : goal.returns-clause-memory
returns-clause-memory c = λ refused. c.may_fit.ensures.short c.if-not-may_fit.false
