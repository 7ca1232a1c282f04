use Rattle.std.proofs.Common.{arith, ◌∙◌}
use Rattle.mac_wire.proofs.Lists.{grown-more}
use Rattle.mac_wire.proofs.send.send_all.Goals as goal

pub loop-sent-preserved : goal.loop-sent-preserved
loop-sent-preserved g c = (
  omega (arith, c.in-Ok.ensures.bound),
  c.in-Ok.ensures.faults ∙ c.loop-sent.invariant.1,
  λ told.
      grown-more (g.W.Sink.written c.args.sink.now) (g.W.Sink.written c.loop-sent.sink) (g.W.Sink.written c.write.new.self)
      c.args.bytes.now c.loop-sent.sent c.in-Ok.count (c.loop-sent.invariant.2 told) (c.in-Ok.ensures.written told),
)
