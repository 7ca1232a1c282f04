use Rattle.std.proofs.Common.{arith, subst}
use Rattle.std.proofs.lemmas.Result.{err_from_is_err_and}
use Rattle.mac_token.specs.Read.{Read, read_of}
use Rattle.mac_token.proofs.ReadLaws.{ends_from_answers, read_means}
use Rattle.mac_token.proofs.reading.read.Goals as goal

pub returns-in_err-read-clause-answer : goal.returns-in_err-read-clause-answer
returns-in_err-read-clause-answer c =
    let p = err_from_is_err_and c.from_residual.result c.from_residual.ensures.1 in
    rw (p.1, p.2) c.in_err-read.ensures.answer

pub returns-in_err-read-clause-memory : goal.returns-in_err-read-clause-memory
returns-in_err-read-clause-memory c =
    let p = err_from_is_err_and c.from_residual.result c.from_residual.ensures.1 in
    rw (p.1, p.2) (λ e. c.in_err-read.ensures.memory cc)

pub returns-in_err-read-clause-meaning : goal.returns-in_err-read-clause-meaning
returns-in_err-read-clause-meaning c =
    let bytes = c.args.bytes.now in
    let means = read_means bytes (λ i. let fits = c.type_inv.bytes i in omega arith) in
    ends_from_answers _ (Read bytes) (read_of bytes) c.from_residual.result means (returns-in_err-read-clause-answer c)

pub returns-clause-answer : goal.returns-clause-answer
returns-clause-answer c = rw c.in_ok-read.ensures.answer c.copied.ensures

pub returns-clause-memory : goal.returns-clause-memory
returns-clause-memory c = λ refused.
    let bytes = c.args.bytes.now in
    let means = read_means bytes (λ i. let fits = c.type_inv.bytes i in omega arith) in
    (subst (Read bytes) c.in_ok-read.ensures.answer means).0.0

pub returns-clause-meaning : goal.returns-clause-meaning
returns-clause-meaning c =
    let bytes = c.args.bytes.now in
    let means = read_means bytes (λ i. let fits = c.type_inv.bytes i in omega arith) in
    ends_from_answers _ (Read bytes) (read_of bytes) c.copied.result means (returns-clause-answer c)
