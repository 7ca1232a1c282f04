use Rattle.std.proofs.lemmas.Result.{err_from_is_err_and}
use Rattle.mac_calls.proofs.ReceivedLemmas.{none_received, received_bare}
use Rattle.mac_calls.proofs.received.receive.Goals as goal

pub returns-in_err-bytes-clause-token : goal.returns-in_err-bytes-clause-token
returns-in_err-bytes-clause-token c =
    let p = err_from_is_err_and c.from_residual.result c.from_residual.ensures.1 in
    rw (p.1, p.2) (none_received c.args.text.now c.in_err-bytes.field-0.0 c.in_err-bytes.ensures.answer)

pub returns-clause-token : goal.returns-clause-token
returns-clause-token c = rw (received_bare c.args.text.now _ c.in_ok-bytes.ensures.answer) c.receive_bare.ensures.token
