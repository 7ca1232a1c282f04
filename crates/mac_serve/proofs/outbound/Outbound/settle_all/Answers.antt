use Rattle.mac_serve.proofs.SendingLemmas.{stays, then, done, passed-on}
use Rattle.mac_serve.proofs.outbound.Outbound.settle_all.Goals as goal

pub loop-init : goal.loop-init
loop-init g c = (tt, tt, λ tells wrote faults. stays tells wrote faults tt c.args.self.now)

pub returns-in_err-settle_next : goal.returns-in_err-settle_next
returns-in_err-settle_next g c tells wrote faults =
    passed-on c.from_residual.result c.from_residual.ensures.1 (then (c.loop.invariant.2 tells wrote faults) (rw c.in_err-settle_next.was at (c.settle_next.ensures tells wrote faults)))

pub loop-preserved : goal.loop-preserved
loop-preserved g c = (tt, tt, λ tells wrote faults. done (then (c.loop.invariant.2 tells wrote faults) (rw c.in_ok-settle_next.was at (c.settle_next.ensures tells wrote faults))))

pub returns-then-not-branch : goal.returns-then-not-branch
returns-then-not-branch g c tells wrote faults = done (then (c.loop.invariant.2 tells wrote faults) (rw c.in_ok-settle_next.was at (c.settle_next.ensures tells wrote faults)))
