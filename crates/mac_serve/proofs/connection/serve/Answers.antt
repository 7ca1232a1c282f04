-- What the two halves did, and what their ends showed when they met.
use Rattle.std.proofs.Common.{◌≡◌, ◌+◌, ◌∙◌, ◌++◌, List, [], ℕ, None, Some, eqb, ap, sym, subst, length, take}
use Rattle.std.specs.Prelude.{IsTrue, Option}
use Rattle.std.proofs.lemmas.Bool.{eqb-true}
use Rattle.mac_serve.specs.Receiving.{TakesUnder}
use Rattle.mac_order.specs.Ring.{admitted, received, waiting}
use Rattle.mac_order.specs.declared.totals.Totals.{Totals}
use Rattle.mac_order.specs.Buffer.{Buffer}
use Rattle.mac_wire.specs.Frame.{framed}
use Rattle.mac_wire.specs.Session.{HasCome}
use Rattle.mac_wire.specs.declared.arrival.Ending.{Ending}
use Rattle.mac_decide.specs.declared.job.Job.{Job}
use Rattle.mac_serve.specs.declared.fault.ServeFault.{ServeFault}
use Rattle.mac_serve.specs.declared.fault.ServeFault.TheVariants as fault
use Rattle.mac_serve.specs.Sending.{next, out_text, payloads}
use Rattle.mac_serve.specs.Serving.{HasServed, CountsServed, GivesBack, GoesOnWith}
use Rattle.mac_serve.proofs.SendingLemmas.{same-mail}
use Rattle.mac_serve.proofs.ServingLemmas.{come-past, nothing-served, nothing-out, has-served, released-count, counts-back, counts-served, ended-told}
use Rattle.mac_serve.proofs.connection.serve.Goals as goal

pub returns-in_default-clause-serves : goal.returns-in_default-clause-serves
returns-in_default-clause-serves g c past come =
    nothing-served c.args.rights.now g.In.Source.tells g.Out.Sink.tells g.K.Outlook.tells (g.K.Outlook.known c.args.outlook.now) c.args.session past (g.In.Source.taken c.args.source.now) (g.Out.Sink.written c.args.sink.now)
    c.args.desk.putter c.args.desk.taker c.unserved.result (come-past c.args.session.version past c.args.session.carried.items come) c.unserved.ensures

pub returns-in_default-begun-clause-serves : goal.returns-in_default-begun-clause-serves
returns-in_default-begun-clause-serves g c past come =
    let given = g.In.Source.taken c.args.source.now in
    let wrote = g.Out.Sink.written c.args.sink.now in
    let same = c.in_default-begun.ensures.untouched in
    subst (λ (l : List ℕ). HasServed g.In.Source.tells g.Out.Sink.tells (TakesUnder c.args.rights.now g.K.Outlook.tells (g.K.Outlook.known c.args.outlook.now) (g.K.Outlook.known c.args.outlook.now)) c.args.session past given l wrote wrote c.args.desk.putter c.args.desk.taker
    (Some fault.NoMemory) c.unserved-in_default-begun.result) (sym (ap g.In.Source.taken same))
    (nothing-served c.args.rights.now g.In.Source.tells g.Out.Sink.tells g.K.Outlook.tells (g.K.Outlook.known c.args.outlook.now) c.args.session past given wrote c.args.desk.putter c.args.desk.taker c.unserved-in_default-begun.result
    (come-past c.args.session.version past c.args.session.carried.items come) c.unserved-in_default-begun.ensures)

pub returns-in-None-clause-serves : goal.returns-in-None-clause-serves
returns-in-None-clause-serves g c past come =
    let run = c.run_both-sending.ensures in
    let out = run.sends in
    let is_past = come-past c.args.session.version past c.args.session.carried.items come in
    let carried = subst (λ (l : List ℕ). HasCome c.args.session.version past.read past.arrived l) (sym c.as_slice.ensures.value) come in
    let reads = c.in-Ok-begun.ensures.reads past carried in
    let read = run.runs.run past (g.In.Source.taken c.args.source.now) is_past reads in
    let ends = c.meet-totals.ensures in
    let start = c.new-inbound.result in
    let i = c.run_both-sending.new.inbound in
    let o = c.run_both-sending.new.outbound in
    let ring = c.meet-totals.new.outlet in
    let totals = c.meet-totals.result in
    let stands = c.new-outbound.ensures.stands in
    let empty : admitted start.ring ≡ [] = ap admitted c.new-inbound.ensures.0 ∙ c.in-Ok.ensures.intake.0 in
    let met : received o.ring ++ waiting ring ≡ admitted i.ring = ap (λ (l : List Job). l ++ waiting ring) (sym ends.outlet.1) ∙ ends.rest ∙ ends.intake.1 in
    let counted : totals.admitted ≡ length (admitted i.ring) = ap (λ (t : Totals). t.admitted) ends.totals ∙ ap length ends.intake.1 in
    let due : totals.released ≡ next o =
    ap (λ (t : Totals). t.released) ends.totals ∙ released-count _ (received ring) ring.buffer.next ends.kept.sent ∙ ap (λ (b : Buffer Job). b.next) ends.outlet.3 in
    let none : out_text c.new-outbound.result ≡ [] = ap (λ (n : ℕ). take n (framed (payloads c.new-outbound.result))) c.new-outbound.ensures.none in
    has-served g.In.Source.tells g.Out.Sink.tells (TakesUnder c.args.rights.now g.K.Outlook.tells (g.K.Outlook.known c.args.outlook.now) (g.K.Outlook.known c.run_both-sending.new.outlook)) c.args.session past
    (g.In.Source.taken c.args.source.now) (g.In.Source.taken c.run_both-sending.new.source) (g.Out.Sink.written c.args.sink.now) (g.Out.Sink.written c.run_both-sending.new.sink)
    read.stream read.readings read.unread out.ahead c.run_both-sending.new.unsent c.args.desk.putter c.args.desk.taker start i o (waiting ring) totals.admitted c.run_both-sending.new.incoming.reader
    read.gave read.taken read.came out.parts (nothing-out c.new-outbound.result o c.run_both-sending.new.unsent c.new-outbound.ensures.none out.none)
    (λ tells. out.written tells c.args.desk.taker stands none)
    empty c.new-inbound.ensures.1 met counted
    (out.same.1 ∙ c.new-outbound.ensures.version ∙ c.version.ensures ∙ sym read.version_is) (out.same.2 ∙ c.new-outbound.ensures.base)
    c.run_both-sending.result.0 c.run_both-sending.result.1 (eqb totals.admitted totals.released) c.outcome-fault.result None c.given_back-fault.result.1
    (out.sends c.args.desk.taker stands) out.sent out.all read.ran read.left (λ is. eqb-true totals.admitted totals.released is ∙ due) c.outcome-fault.ensures
    (subst (λ (w : Option ServeFault). GivesBack (GoesOnWith c.run_both-sending.new.incoming.reader c.run_both-sending.new.unsent (c.args.session.answered + totals.admitted)) c.outcome-fault.result.0 w c.given_back-fault.result.1) c.in-None.is c.given_back-fault.ensures)

pub returns-clause-serves : goal.returns-clause-serves
returns-clause-serves g c past come =
    let run = c.run_both-sending.ensures in
    let out = run.sends in
    let is_past = come-past c.args.session.version past c.args.session.carried.items come in
    let carried = subst (λ (l : List ℕ). HasCome c.args.session.version past.read past.arrived l) (sym c.as_slice.ensures.value) come in
    let reads = c.in-Ok-begun.ensures.reads past carried in
    let read = run.runs.run past (g.In.Source.taken c.args.source.now) is_past reads in
    let ends = c.meet-totals.ensures in
    let start = c.new-inbound.result in
    let i = c.run_both-sending.new.inbound in
    let o = c.run_both-sending.new.outbound in
    let ring = c.meet-totals.new.outlet in
    let totals = c.meet-totals.result in
    let stands = c.new-outbound.ensures.stands in
    let empty : admitted start.ring ≡ [] = ap admitted c.new-inbound.ensures.0 ∙ c.in-Ok.ensures.intake.0 in
    let met : received o.ring ++ waiting ring ≡ admitted i.ring = ap (λ (l : List Job). l ++ waiting ring) (sym ends.outlet.1) ∙ ends.rest ∙ ends.intake.1 in
    let counted : totals.admitted ≡ length (admitted i.ring) = ap (λ (t : Totals). t.admitted) ends.totals ∙ ap length ends.intake.1 in
    let due : totals.released ≡ next o =
    ap (λ (t : Totals). t.released) ends.totals ∙ released-count _ (received ring) ring.buffer.next ends.kept.sent ∙ ap (λ (b : Buffer Job). b.next) ends.outlet.3 in
    let none : out_text c.new-outbound.result ≡ [] = ap (λ (n : ℕ). take n (framed (payloads c.new-outbound.result))) c.new-outbound.ensures.none in
    has-served g.In.Source.tells g.Out.Sink.tells (TakesUnder c.args.rights.now g.K.Outlook.tells (g.K.Outlook.known c.args.outlook.now) (g.K.Outlook.known c.run_both-sending.new.outlook)) c.args.session past
    (g.In.Source.taken c.args.source.now) (g.In.Source.taken c.run_both-sending.new.source) (g.Out.Sink.written c.args.sink.now) (g.Out.Sink.written c.run_both-sending.new.sink)
    read.stream read.readings read.unread out.ahead c.run_both-sending.new.unsent c.args.desk.putter c.args.desk.taker start i o (waiting ring) totals.admitted c.run_both-sending.new.incoming.reader
    read.gave read.taken read.came out.parts (nothing-out c.new-outbound.result o c.run_both-sending.new.unsent c.new-outbound.ensures.none out.none)
    (λ tells. out.written tells c.args.desk.taker stands none)
    empty c.new-inbound.ensures.1 met counted
    (out.same.1 ∙ c.new-outbound.ensures.version ∙ c.version.ensures ∙ sym read.version_is) (out.same.2 ∙ c.new-outbound.ensures.base)
    c.run_both-sending.result.0 c.run_both-sending.result.1 (eqb totals.admitted totals.released) c.outcome-fault.result (Some c.in-Some.fault) c.given_back-fault.result.1
    (out.sends c.args.desk.taker stands) out.sent out.all read.ran read.left (λ is. eqb-true totals.admitted totals.released is ∙ due) c.outcome-fault.ensures
    (subst (λ (w : Option ServeFault). GivesBack (GoesOnWith c.run_both-sending.new.incoming.reader c.run_both-sending.new.unsent (c.args.session.answered + totals.admitted)) c.outcome-fault.result.0 w c.given_back-fault.result.1) c.in-Some.is c.given_back-fault.ensures)

pub returns-in-None-clause-same_mail : goal.returns-in-None-clause-same_mail
returns-in-None-clause-same_mail g c =
    same-mail c.args.desk.taker c.run_both-sending.result.0 c.run_both-sending.new.outbound
    (c.run_both-sending.ensures.sends.sends c.args.desk.taker c.new-outbound.ensures.stands)

pub returns-clause-same_mail : goal.returns-clause-same_mail
returns-clause-same_mail g c =
    same-mail c.args.desk.taker c.run_both-sending.result.0 c.run_both-sending.new.outbound
    (c.run_both-sending.ensures.sends.sends c.args.desk.taker c.new-outbound.ensures.stands)

pub returns-clause-faults : goal.returns-clause-faults
returns-clause-faults g c =
    let run = c.run_both-sending.ensures in
    let r = g.In.Source.faults c.args.source.now in
    let r' = g.In.Source.faults c.run_both-sending.new.source in
    let w = g.Out.Sink.faults c.args.sink.now in
    let w' = g.Out.Sink.faults c.run_both-sending.new.sink in
    let totals = c.meet-totals.result in
    let counted = counts-served c.run_both-sending.result.0 c.run_both-sending.result.1 (eqb totals.admitted totals.released) r r' w w' run.sends.counts (run.runs.counts r c.in-Ok-begun.ensures.faults) in
    counts-back (GoesOnWith c.run_both-sending.new.incoming.reader c.run_both-sending.new.unsent (c.args.session.answered + totals.admitted)) c.outcome-fault.result.0 (Some c.in-Some.fault)
    c.given_back-fault.result.1 r r' w w'
    (subst (λ (f : Option ServeFault). GivesBack (GoesOnWith c.run_both-sending.new.incoming.reader c.run_both-sending.new.unsent (c.args.session.answered + totals.admitted)) c.outcome-fault.result.0 f c.given_back-fault.result.1) c.in-Some.is c.given_back-fault.ensures)
    (subst (λ (p : Option ServeFault × Ending). CountsServed p.0 r r' w w') (sym c.outcome-fault.ensures) counted)

pub returns-clause-end : goal.returns-clause-end
returns-clause-end g c past come whole within =
    let totals = c.meet-totals.result in
    let carried = subst (λ (l : List ℕ). HasCome c.args.session.version past.read past.arrived l) (sym c.as_slice.ensures.value) come in
    let reads = c.in-Ok-begun.ensures.reads past carried in
    let ended = c.run_both-sending.ensures.runs.at_end c.in-Ok-begun.ensures.end past (g.In.Source.taken c.args.source.now) reads in
    let is = ap (λ (p : Option ServeFault × Ending). p.1) c.outcome-fault.ensures in
    ended-told c.run_both-sending.result.0 c.run_both-sending.result.1 (eqb totals.admitted totals.released) (IsTrue (g.In.Source.ended c.run_both-sending.new.source)) ended
    (λ broken. whole (is ∙ broken)) (λ over. within (is ∙ over))
