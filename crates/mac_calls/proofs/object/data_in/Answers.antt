use Rattle.mac_calls.proofs.BodyLemmas.{data_read, no_data}
use Rattle.mac_calls.proofs.object.data_in.Goals as goal

pub returns-in-Ok : goal.returns-in-Ok
returns-in-Ok c = data_read c.args.body.now _ c.in-Ok.ensures.ok.0 c.in-Ok.ensures.ok.1

pub returns-in-Err : goal.returns-in-Err
returns-in-Err c = c.unread.ensures _ (λ other. no_data c.args.body.now (c.in-Err.ensures.err other))
