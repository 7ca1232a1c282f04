use Rattle.mac_serve.specs.declared.outbound.OutboundFault.TheVariants as fault
use Rattle.mac_serve.proofs.SendingLemmas.{sends-nothing, sends-ahead, sends-both}
use Rattle.mac_serve.proofs.outbound.Outbound.send_if_counted.Goals as goal

pub returns-then-faults-eq18446744073709551615 : goal.returns-then-faults-eq18446744073709551615
returns-then-faults-eq18446744073709551615 g c =
    sends-nothing g.W.Sink.tells c.args.unsent.now (g.W.Sink.written c.args.sink.now) (g.W.Sink.faults c.args.sink.now) fault.Exhausted c.args.self.now (λ is. absurd cc) (λ is. absurd cc)

pub returns-in_err-send_unsent : goal.returns-in_err-send_unsent
returns-in_err-send_unsent g c = sends-ahead c.from_residual.result c.args.self.now c.from_residual.ensures.1 (rw c.in_err-send_unsent.was at c.send_unsent.ensures)

pub returns : goal.returns
returns g c = sends-both (rw c.in_ok-send_unsent.was at c.send_unsent.ensures) c.send_until_done.ensures
