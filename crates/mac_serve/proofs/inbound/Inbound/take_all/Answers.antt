use Rattle.std.proofs.Common.{◌∙◌, refl}
use Rattle.mac_serve.specs.Receiving.{jobs_of}
use Rattle.mac_serve.proofs.ReceivingLemmas.{goes-received, match-residual, same-nothing, same-received}
use Rattle.mac_serve.proofs.inbound.Inbound.take_all.Goals as goal

pub returns-in_err-take_arrivals-clause-goes_on : goal.returns-in_err-take_arrivals-clause-goes_on
returns-in_err-take_arrivals-clause-goes_on g c begun version past given start on =
    let why = c.in_err-take_arrivals.field-0.0 in
    let run = rw c.in_err-take_arrivals.was at (goes-received c.args.rights.now g.In.Source.tells g.K.Outlook.tells begun (g.K.Outlook.known c.loop.outlook) (g.K.Outlook.known c.take_arrivals.new.outlook) version past given (g.In.Source.taken c.loop.source) c.loop.incoming.reader c.loop.arrivals.items start c.loop.self c.take_arrivals.new.self
    c.take_arrivals.result (c.loop.invariant.4 begun version past given start on) c.take_arrivals.ensures) in
    match-residual _ _ c.from_residual.result why c.from_residual.ensures.1 run

pub returns-in_err-more-clause-goes_on : goal.returns-in_err-more-clause-goes_on
returns-in_err-more-clause-goes_on g c begun version past given start on =
    let taken = rw c.in_ok-take_arrivals.was at (goes-received c.args.rights.now g.In.Source.tells g.K.Outlook.tells begun (g.K.Outlook.known c.loop.outlook) (g.K.Outlook.known c.take_arrivals.new.outlook) version past given (g.In.Source.taken c.loop.source) c.loop.incoming.reader c.loop.arrivals.items start c.loop.self c.take_arrivals.new.self
    c.take_arrivals.result (c.loop.invariant.4 begun version past given start on) c.take_arrivals.ensures) in
    let run = rw c.in_err-more.was at (c.read_next.ensures.goes_on c.args.rights.now g.K.Outlook.tells begun (g.K.Outlook.known c.take_arrivals.new.outlook) version past given start c.take_arrivals.new.self taken) in
    match-residual _ _ c.from_residual-in_err-more.result c.in_err-more.field-0.0 c.from_residual-in_err-more.ensures.1 run

pub loop-preserved : goal.loop-preserved
loop-preserved g c = (
  tt,
  tt,
  same-received (jobs_of c.take_arrivals.ensures.readings) c.take_arrivals.result c.args.self.now c.loop.self c.take_arrivals.new.self c.loop.invariant.2 c.take_arrivals.ensures.receives,
  (rw c.in_ok-more.was at c.read_next.ensures.faults) ∙ c.loop.invariant.3,
  λ begun version past given start on.
      let taken = rw c.in_ok-take_arrivals.was at (goes-received c.args.rights.now g.In.Source.tells g.K.Outlook.tells begun (g.K.Outlook.known c.loop.outlook) (g.K.Outlook.known c.take_arrivals.new.outlook) version past given (g.In.Source.taken c.loop.source) c.loop.incoming.reader c.loop.arrivals.items start c.loop.self c.take_arrivals.new.self
      c.take_arrivals.result (c.loop.invariant.4 begun version past given start on) c.take_arrivals.ensures) in
      rw c.in-Some-2.is at (rw c.in_ok-more.was at (c.read_next.ensures.goes_on c.args.rights.now g.K.Outlook.tells begun (g.K.Outlook.known c.take_arrivals.new.outlook) version past given start c.take_arrivals.new.self taken)),
)

pub returns-in-None-2-clause-goes_on : goal.returns-in-None-2-clause-goes_on
returns-in-None-2-clause-goes_on g c begun version past given start on =
    let taken = rw c.in_ok-take_arrivals.was at (goes-received c.args.rights.now g.In.Source.tells g.K.Outlook.tells begun (g.K.Outlook.known c.loop.outlook) (g.K.Outlook.known c.take_arrivals.new.outlook) version past given (g.In.Source.taken c.loop.source) c.loop.incoming.reader c.loop.arrivals.items start c.loop.self c.take_arrivals.new.self
    c.take_arrivals.result (c.loop.invariant.4 begun version past given start on) c.take_arrivals.ensures) in
    rw c.in-None-2.is at (rw c.in_ok-more.was at (c.read_next.ensures.goes_on c.args.rights.now g.K.Outlook.tells begun (g.K.Outlook.known c.take_arrivals.new.outlook) version past given start c.take_arrivals.new.self taken))

pub returns-in_err-take_arrivals-clause-same : goal.returns-in_err-take_arrivals-clause-same
returns-in_err-take_arrivals-clause-same g c =
    same-received (jobs_of c.take_arrivals.ensures.readings) c.take_arrivals.result c.args.self.now c.loop.self c.take_arrivals.new.self c.loop.invariant.2 c.take_arrivals.ensures.receives

pub returns-in_err-more-clause-same : goal.returns-in_err-more-clause-same
returns-in_err-more-clause-same g c =
    same-received (jobs_of c.take_arrivals.ensures.readings) c.take_arrivals.result c.args.self.now c.loop.self c.take_arrivals.new.self c.loop.invariant.2 c.take_arrivals.ensures.receives

pub returns-in-None-2-clause-same : goal.returns-in-None-2-clause-same
returns-in-None-2-clause-same g c =
    same-received (jobs_of c.take_arrivals.ensures.readings) c.take_arrivals.result c.args.self.now c.loop.self c.take_arrivals.new.self c.loop.invariant.2 c.take_arrivals.ensures.receives

pub loop-init : goal.loop-init
loop-init g c = (tt, tt, same-nothing c.args.self.now, refl, λ begun version past given start on. on)
