use Rattle.std.proofs.Common.{refl}
use Rattle.std.specs.Prelude.{Err}
use Rattle.mac_serve.proofs.SendingLemmas.{stays, then, done, all-failed}
use Rattle.mac_serve.proofs.outbound.Outbound.send_until_done.Goals as goal

pub loop-init : goal.loop-init
loop-init g c = (tt, tt, stays g.W.Sink.tells (g.W.Sink.written c.args.sink.now) (g.W.Sink.faults c.args.sink.now) tt c.args.self.now)

pub returns-in_err-turn : goal.returns-in_err-turn
returns-in_err-turn g c =
    let turned = rw c.in_err-turn.was at c.turn.ensures in
    all-failed c.from_residual.result c.from_residual.ensures.1 (then c.loop.invariant.2 turned.steps)

pub loop-preserved-then-branch : goal.loop-preserved-then-branch
loop-preserved-then-branch g c =
    let turned = rw c.in_ok-turn.was at c.turn.ensures in
    (tt, tt, done (then c.loop.invariant.2 turned.steps))

pub loop-preserved-in-Ok-true : goal.loop-preserved-in-Ok-true
loop-preserved-in-Ok-true g c =
    let turned = rw c.in_ok-turn.was at c.turn.ensures in
    let again = rw c.in-Ok-true.is at c.turn-in-loop.ensures in
    (tt, tt, done (then (then c.loop.invariant.2 turned.steps) again.steps))

pub loop-preserved : goal.loop-preserved
loop-preserved g c =
    let turned = rw c.in_ok-turn.was at c.turn.ensures in
    let again = rw c.in-Ok-false.is at c.turn-in-loop.ensures in
    (tt, tt, done (then (then c.loop.invariant.2 turned.steps) again.steps))

pub returns-in-Ok-false-2 : goal.returns-in-Ok-false-2
returns-in-Ok-false-2 g c =
    let turned = rw c.in_ok-turn.was at c.turn.ensures in
    let again = rw c.in-Ok-false.is at c.turn-in-loop.ensures in
    record { steps = done (then (then c.loop.invariant.2 turned.steps) again.steps); sent = again.sent }

pub returns-in-Err : goal.returns-in-Err
returns-in-Err g c =
    let turned = rw c.in_ok-turn.was at c.turn.ensures in
    let again = rw c.in-Err.is at c.turn-in-loop.ensures in
    all-failed (Err c.in-Err.fault) refl (then (then c.loop.invariant.2 turned.steps) again.steps)
