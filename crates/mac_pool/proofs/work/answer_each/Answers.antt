use Rattle.std.proofs.Common.{◌∷◌, ◌++◌, [], arith, rules, ap, refl, ◌∙◌, length}
use Rattle.mac_pool.proofs.Parcels.{answer_push, ticket_done}
use Rattle.mac_pool.proofs.work.answer_each.Goals as goal

pub loop-ticket-init : goal.loop-ticket-init
loop-ticket-init g c =
    let empty = c.requires.empty in
    let len = c.args.parcels.now.ok.0 in
    record {
      done = [];
      left = refl;
      answers = rw empty tt;
      count = omega (arith, ap length empty);
      tickets = refl;
      parcels = refl;
    }

pub loop-ticket-preserved : goal.loop-ticket-preserved
loop-ticket-preserved g c =
    let invariant = c.loop-ticket.invariant in
    let ticket = c.in-Some.ticket in
    let popped = c.in-Some.ensures.items in
    record {
      done = invariant.done ++ ticket ∷ [];
      left = ticket_done invariant.done _ _ _ ticket popped invariant.left;
      answers = rw c.push_back_reserved.ensures.items (answer_push invariant.done c.loop-ticket.parcels.items ticket c.answer.result invariant.answers c.answer.ensures);
      count = search rules;
      tickets = c.in-Some.ensures.capacity ∙ invariant.tickets;
      parcels = c.push_back_reserved.ensures.capacity ∙ invariant.parcels;
    }
