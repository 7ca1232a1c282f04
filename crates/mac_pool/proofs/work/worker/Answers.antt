use Rattle.std.proofs.Common.{ap, sym, ◌∙◌, subst, arith}
use Rattle.mac_queue.specs.Pass.{Pass}
use Rattle.mac_pool.specs.Working.{HasWorked}
use Rattle.mac_pool.proofs.Claims.{worked_none, worked_turn, worked_alone, few_counted}
use Rattle.mac_pool.proofs.work.worker.Goals as goal

pub loop-init : goal.loop-init
loop-init g c =
    subst (λ l. HasWorked c.args.pass 0 c.args.pass l) (sym c.new-deliveries.ensures) (worked_none c.args.pass)

pub next_ticket-requires-after_bounds : goal.next_ticket-requires-after_bounds
next_ticket-requires-after_bounds g c = λ _ _. c.loop.invariant.claims.same.0 ∙ c.requires

pub returns-in-None-next_ticket : goal.returns-in-None-next_ticket
returns-in-None-next_ticket g c =
    subst (λ (p : Pass g.row.S-Job.Denot). HasWorked c.args.pass c.loop.claimed p c.loop.deliveries) (sym c.in-None-next_ticket.ensures.same) c.loop.invariant

pub overflow_add-claimed : goal.overflow_add-claimed
overflow_add-claimed g c =
    let few = few_counted _ _ _ _ _ _ c.loop.invariant c.in-Some-next_ticket.ensures.claimed c.in-Some-next_ticket.ensures.few in
    omega arith

pub turn_from-claimed-requires-after_bounds : goal.turn_from-claimed-requires-after_bounds
turn_from-claimed-requires-after_bounds g c =
    λ _ _. ap (λ (p : Pass g.row.S-Job.Denot). p.queue) c.in-Some-next_ticket.ensures.claimed ∙ c.loop.invariant.claims.same.0 ∙ c.requires

pub overflow_add-claimed-in-Some-room : goal.overflow_add-claimed-in-Some-room
overflow_add-claimed-in-Some-room g c =
    let few = few_counted _ _ _ _ _ _ c.loop.invariant c.in-Some-next_ticket.ensures.claimed c.in-Some-next_ticket.ensures.few in
    let more = c.turn_from-claimed.ensures.few in
    omega arith

pub loop-preserved-in-Some-room : goal.loop-preserved-in-Some-room
loop-preserved-in-Some-room g c =
    worked_turn _ _ _ _ _ _ _ _ _ c.loop.invariant c.in-Some-next_ticket.ensures.claimed c.turn_from-claimed.ensures.answered

pub loop-preserved : goal.loop-preserved
loop-preserved g c =
    worked_alone _ _ _ _ c.in-Some-next_ticket.ticket _ _ _ c.loop.invariant c.in-Some-next_ticket.ensures.claimed c.give_up.ensures c.add.ensures
