use Rattle.std.proofs.Common.{[], ◌∷◌, ◌++◌, List, length-append, append_assoc, append-nil, sym, ap, refl, ◌∙◌, arith}
use Rattle.mac_queue.specs.Pass.{Pass}
use Rattle.mac_queue.specs.declared.ticket.Ticket.{Ticket}
use Rattle.mac_pool.proofs.Claims.{tickets_none, tickets_more}
use Rattle.mac_pool.proofs.work.claim_more.Goals as goal

pub loop-init : goal.loop-init
loop-init g c = record {
  got = [];
  number = refl;
  tickets = sym (append-nil _);
  pass = tickets_none g.row.S.Denot g.row.S-Reply.Denot _;
  below = refl;
  few = omega arith;
  count = omega arith;
  capacity = refl;
}

pub claim-requires-after_bounds : goal.claim-requires-after_bounds
claim-requires-after_bounds g c = λ _ _. ap (λ (p : Pass g.row.S-Job.Denot). p.queue) c.loop.invariant.pass ∙ c.requires.queue

pub loop-preserved : goal.loop-preserved
loop-preserved g c =
    let was = c.loop.invariant in
    let ticket = c.in-Got.ticket in
    let pushed = c.push_back_reserved.ensures in
    record {
      got = was.got ++ ticket ∷ [];
      number = omega (arith, length-append was.got (ticket ∷ []), was.number);
      tickets = pushed.items ∙ ap (λ (l : List (Ticket g.row.S.Denot g.row.S-Job.Denot g.row.S-Reply.Denot)). l ++ ticket ∷ []) was.tickets ∙ append_assoc c.args.tickets.now.items was.got (ticket ∷ []);
      pass = tickets_more _ _ _ was.got ticket was.pass c.in-Got.ensures.claimed;
      below = omega arith;
      few = omega arith;
      count = (let len = pushed.len in let count = was.count in omega arith);
      capacity = pushed.capacity ∙ was.capacity;
    }
