use Rattle.std.proofs.Common.{rules, ◌≡◌, ◌++◌, ◌∙◌, ◌∷◌, [], ap, sym, subst, append_assoc, List, length, arith}
use Rattle.std.specs.Vec.Iter.{into_iter_items}
use Rattle.std.proofs.lemmas.List.{nil_from_length}
use Rattle.mac_board.specs.Noticed.{lent_current}
use Rattle.mac_wire.specs.declared.arrival.Arrival.{Arrival}
use Rattle.mac_serve.specs.Receiving.{ReceivesUnder, TakesUnder}
use Rattle.mac_serve.proofs.ReceivingLemmas.{done, has-taken-none, takes-in-next, takes-some-next, takes-all}
use Rattle.mac_serve.proofs.inbound.Inbound.take_arrivals.Goals as goal

pub loop-arrival-init : goal.loop-arrival-init
loop-arrival-init g c = record {
  all = search rules;
  left = search rules;
  took = has-taken-none c.args.rights.now g.K.Outlook.tells (g.K.Outlook.known c.args.outlook.now) c.args.self.now;
}

pub loop-arrival-preserved : goal.loop-arrival-preserved
loop-arrival-preserved g c =
    let steps = c.in-Some.ensures.steps in
    record {
      all = append_assoc c.loop-arrival.yielded (c.in-Some.arrival ∷ []) (into_iter_items c.next.new.self) ∙ ap (λ left. c.loop-arrival.yielded ++ left) (sym steps.0) ∙ c.loop-arrival.invariant.all;
      left = omega (arith, ap length steps.0);
      took = takes-in-next c.args.rights.now g.K.Outlook.tells (g.K.Outlook.known c.args.outlook.now) (g.K.Outlook.known c.loop-arrival.outlook) (g.K.Outlook.known c.look.new.self) (lent_current c.current-current.result)
          c.loop-arrival.yielded c.in-Some.arrival c.args.self.now c.loop-arrival.self c.take_arrival.new.self c.loop-arrival.invariant.took c.look.ensures c.current-current.ensures
          (rw c.in_ok-take_arrival.was at c.take_arrival.ensures);
    }

pub returns-in_err-take_arrival : goal.returns-in_err-take_arrival
returns-in_err-take_arrival g c =
    let all = ap (λ left. c.loop-arrival.yielded ++ left) (sym c.in-Some.ensures.steps.0) ∙ c.loop-arrival.invariant.all ∙ c.into_iter-arrival-iterator.ensures.into_iter_gives.0 in
    let failed = rw c.in_err-take_arrival.was at c.take_arrival.ensures in
    takes-some-next c.args.rights.now g.K.Outlook.tells (g.K.Outlook.known c.args.outlook.now) (g.K.Outlook.known c.loop-arrival.outlook) (g.K.Outlook.known c.look.new.self) (lent_current c.current-current.result)
    c.loop-arrival.yielded c.in-Some.arrival (into_iter_items c.next.new.self) c.args.arrivals.items c.from_residual.result c.in_err-take_arrival.field-0.0
    c.args.self.now c.loop-arrival.self c.take_arrival.new.self all c.from_residual.ensures.1 c.loop-arrival.invariant.took c.look.ensures c.current-current.ensures failed.0 failed.1

pub returns : goal.returns
returns g c =
    let none : into_iter_items c.loop-arrival.arrival-iterator ≡ [] = nil_from_length _ (sym c.loop-arrival.invariant.left ∙ c.in-None.ensures.steps.0) in
    let all : c.loop-arrival.yielded ≡ c.args.arrivals.items = sym (ap (λ left. c.loop-arrival.yielded ++ left) none ∙ search rules) ∙ c.loop-arrival.invariant.all ∙ c.into_iter-arrival-iterator.ensures.into_iter_gives.0 in
    let AreTaken = TakesUnder c.args.rights.now g.K.Outlook.tells (g.K.Outlook.known c.args.outlook.now) (g.K.Outlook.known c.loop-arrival.outlook) in
    subst (λ (arrivals : List Arrival). ReceivesUnder AreTaken arrivals (done (tt {0})) c.args.self.now c.loop-arrival.self) all
    (takes-all AreTaken c.loop-arrival.yielded (tt {0}) c.args.self.now c.loop-arrival.self c.loop-arrival.invariant.took)
