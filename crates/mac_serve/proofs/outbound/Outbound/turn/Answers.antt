use Rattle.mac_serve.proofs.SendingLemmas.{then, done, all-failed}
use Rattle.mac_serve.proofs.outbound.Outbound.turn.Goals as goal

pub returns-in_err-has_settled : goal.returns-in_err-has_settled
returns-in_err-has_settled g c =
    let looked = c.look-has_looked.ensures g.W.Sink.tells (g.W.Sink.written c.args.sink.now) (g.W.Sink.faults c.args.sink.now) in
    let settled = rw c.in_err-has_settled.was at (c.settle_all.ensures g.W.Sink.tells (g.W.Sink.written c.args.sink.now) (g.W.Sink.faults c.args.sink.now)) in
    all-failed c.from_residual.result c.from_residual.ensures.1 (then looked settled)

pub returns-in_err-release_all : goal.returns-in_err-release_all
returns-in_err-release_all g c =
    let looked = c.look-has_looked.ensures g.W.Sink.tells (g.W.Sink.written c.args.sink.now) (g.W.Sink.faults c.args.sink.now) in
    let settled = rw c.in_ok-has_settled.was at (c.settle_all.ensures g.W.Sink.tells (g.W.Sink.written c.args.sink.now) (g.W.Sink.faults c.args.sink.now)) in
    let released = rw c.in_err-release_all.was at c.release_all.ensures in
    all-failed c.from_residual-in_err-release_all.result c.from_residual-in_err-release_all.ensures.1 (then (then looked settled) released.steps)

pub returns : goal.returns
returns g c =
    let looked = c.look-has_looked.ensures g.W.Sink.tells (g.W.Sink.written c.args.sink.now) (g.W.Sink.faults c.args.sink.now) in
    let settled = rw c.in_ok-has_settled.was at (c.settle_all.ensures g.W.Sink.tells (g.W.Sink.written c.args.sink.now) (g.W.Sink.faults c.args.sink.now)) in
    let released = rw c.in_ok-release_all.was at c.release_all.ensures in
    record { steps = done (then (then looked settled) released.steps); sent = released.sent }
