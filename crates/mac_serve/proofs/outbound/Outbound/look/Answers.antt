use Rattle.std.proofs.Common.{[], ◌∷◌, ap, ◌∙◌, sym}
use Rattle.std.proofs.lemmas.List.{append-nil}
use Rattle.mac_order.specs.Buffer.{Buffer}
use Rattle.mac_order.specs.Ring.{received}
use Rattle.mac_decide.specs.declared.job.Job.{Job}
use Rattle.mac_serve.proofs.SendingLemmas.{grown, stays, then}
use Rattle.mac_serve.proofs.outbound.Outbound.look.Goals as goal

pub loop-found-init : goal.loop-found-init
loop-found-init c tells wrote faults = stays tells wrote faults tt c.args.self.now

pub loop-found-preserved : goal.loop-found-preserved
loop-found-preserved c tells wrote faults =
    let t = c.look.ensures.taken c.loop-found-test.true in
    then (c.loop-found.invariant tells wrote faults)
    (grown tt c.loop-found.self c.look.new.self (t.1.0 ∷ []) t.0 c.look.ensures.kept t.1.1
    (ap (λ (b : Buffer Job). b.next) t.1.2) (ap (λ (b : Buffer Job). b.closed) t.1.2) (ap (λ (b : Buffer Job). b.answers) t.1.2) tells wrote faults)

pub returns : goal.returns
returns c tells wrote faults =
    let t = c.look.ensures.left c.loop-found-test.false in
    then (c.loop-found.invariant tells wrote faults)
    (grown c.loop-found.found c.loop-found.self c.look.new.self [] t.0 c.look.ensures.kept (t.1 ∙ sym (append-nil (received c.loop-found.self.ring)))
    (ap (λ (b : Buffer Job). b.next) t.3) (ap (λ (b : Buffer Job). b.closed) t.3) (ap (λ (b : Buffer Job). b.answers) t.3) tells wrote faults)
