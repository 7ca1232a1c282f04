use Rattle.std.proofs.Common.{Ok, arith}
use Rattle.std.proofs.lemmas.Result.{err_from_is_err_and}
use Rattle.mac_token.specs.RawToken.{RawParts}
use Rattle.mac_token.specs.Read.{carried_of, bare_of, raw_read_of}
use Rattle.mac_token.proofs.ReadLaws.{fault_carried, raw_ends}
use Rattle.mac_token.proofs.ReadLemmas.{told_from_fails}
use Rattle.mac_token.proofs.reading.read_raw.Goals as goal

pub returns-in_err-bare-clause-answer : goal.returns-in_err-bare-clause-answer
unfolding raw_read_of
returns-in_err-bare-clause-answer c =
    let p = err_from_is_err_and c.from_residual.result c.from_residual.ensures.1 in
    rw (p.1, p.2) (fault_carried c.in_err-bare.field-0.0 (carried_of c.args.bytes.now) c.in_err-bare.ensures.answer)

pub returns-in_err-spelled-clause-answer : goal.returns-in_err-spelled-clause-answer
unfolding raw_read_of
returns-in_err-spelled-clause-answer c =
    let p = err_from_is_err_and c.from_residual-in_err-spelled.result c.from_residual-in_err-spelled.ensures.1 in
    rw (p.1, p.2, c.in_ok-bare.ensures.answer) (told_from_fails c.in_err-spelled.field-0.0 (bare_of c.in_ok-bare.bare.now) c.in_err-spelled.ensures)

pub returns-in_err-spelled-clause-meaning : goal.returns-in_err-spelled-clause-meaning
returns-in_err-spelled-clause-meaning c =
    raw_ends _ c.args.bytes.now (λ i. let fits = c.type_inv.bytes i in omega arith) c.from_residual-in_err-spelled.result (returns-in_err-spelled-clause-answer c)

pub returns-clause-answer : goal.returns-clause-answer
unfolding raw_read_of
returns-clause-answer c = rw (c.in_ok-bare.ensures.answer, c.in_ok-spelled.ensures)

pub returns-clause-meaning : goal.returns-clause-meaning
returns-clause-meaning c =
    raw_ends {X = RawParts} (λ r. r) c.args.bytes.now (λ i. let fits = c.type_inv.bytes i in omega arith) (Ok c.in_ok-spelled.field-0) (returns-clause-answer c)
