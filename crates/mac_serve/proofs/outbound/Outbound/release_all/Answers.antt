use Rattle.mac_serve.proofs.SendingLemmas.{stays, then, then-all, all-failed, flushed, stranger-met, stranger-cut}
use Rattle.mac_serve.proofs.outbound.Outbound.release_all.Goals as goal

pub loop-init : goal.loop-init
loop-init g c = (tt, tt, stays g.W.Sink.tells (g.W.Sink.written c.args.sink.now) (g.W.Sink.faults c.args.sink.now) tt c.args.self.now)

pub loop-preserved-then-len-lt-GATHERED : goal.loop-preserved-then-len-lt-GATHERED
loop-preserved-then-len-lt-GATHERED g c =
    let released = (rw c.in-Gathered.is at c.release_next.ensures) g.W.Sink.tells (g.W.Sink.written c.loop.sink) (g.W.Sink.faults c.loop.sink) in
    (tt, tt, then c.loop.invariant.2 released)

pub loop-preserved : goal.loop-preserved
loop-preserved g c =
    let released = (rw c.in-Gathered-2.is at c.release_next.ensures) g.W.Sink.tells (g.W.Sink.written c.loop.sink) (g.W.Sink.faults c.loop.sink) in
    let written = flushed (rw c.in_ok-flush-in-Gathered-2.was at c.flush.ensures) in
    (tt, tt, then (then c.loop.invariant.2 released) written.steps)

pub returns-in_err-flush-in-Gathered-2 : goal.returns-in_err-flush-in-Gathered-2
returns-in_err-flush-in-Gathered-2 g c =
    let released = (rw c.in-Gathered-2.is at c.release_next.ensures) g.W.Sink.tells (g.W.Sink.written c.loop.sink) (g.W.Sink.faults c.loop.sink) in
    let written = flushed (rw c.in_err-flush-in-Gathered-2.was at c.flush.ensures) in
    all-failed c.from_residual.result c.from_residual.ensures.1 (then (then c.loop.invariant.2 released) written.steps)

pub returns-in-Waiting : goal.returns-in-Waiting
returns-in-Waiting g c =
    let released = (rw c.in-Waiting.is at c.release_next.ensures) g.W.Sink.tells (g.W.Sink.written c.loop.sink) (g.W.Sink.faults c.loop.sink) in
    then-all (then c.loop.invariant.2 released) (flushed c.flush-in-Waiting.ensures)

pub returns-in_err-flush-in-Stranger : goal.returns-in_err-flush-in-Stranger
returns-in_err-flush-in-Stranger g c =
    let met = rw c.in-Stranger.is at c.release_next.ensures in
    let cut = stranger-cut met (rw c.in_err-flush-in-Stranger.was at c.flush-in-Stranger.ensures) in
    all-failed c.from_residual-in_err-flush-in-Stranger.result c.from_residual-in_err-flush-in-Stranger.ensures.1 (then c.loop.invariant.2 cut)

pub returns-in-Stranger : goal.returns-in-Stranger
returns-in-Stranger g c =
    let met = rw c.in-Stranger.is at c.release_next.ensures in
    record { steps = then c.loop.invariant.2 (stranger-met met (rw c.in_ok-flush-in-Stranger.was at c.flush-in-Stranger.ensures)); sent = tt }

pub returns-in-NoMemory : goal.returns-in-NoMemory
returns-in-NoMemory g c =
    let released = (rw c.in-NoMemory.is at c.release_next.ensures) g.W.Sink.tells (g.W.Sink.written c.loop.sink) (g.W.Sink.faults c.loop.sink) in
    record { steps = then c.loop.invariant.2 released; sent = tt }

pub returns-in-Exhausted : goal.returns-in-Exhausted
returns-in-Exhausted g c =
    let released = (rw c.in-Exhausted.is at c.release_next.ensures) g.W.Sink.tells (g.W.Sink.written c.loop.sink) (g.W.Sink.faults c.loop.sink) in
    record { steps = then c.loop.invariant.2 released; sent = tt }
