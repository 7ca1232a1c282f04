use Rattle.std.proofs.Common.{◌≡◌, List, [], ◌∷◌, ◌++◌, ap, ◌∙◌, subst}
use Rattle.mac_queue.specs.Pass.{Pass}
use Rattle.mac_queue.specs.declared.ticket.Ticket.{Ticket}
use Rattle.mac_pool.specs.Parcel.{AnswerEach}
use Rattle.mac_pool.specs.Working.{with_tickets}
use Rattle.mac_pool.proofs.Posts.{answered_all}
use Rattle.mac_pool.proofs.work.turn_from.Goals as goal

pub returns-clause-answered : goal.returns-clause-answered
returns-clause-answered g c =
    let got = c.claim_more-claimed.ensures.claimed in
    let posted = c.post_all.ensures.posted in
    let ticket = c.args.ticket in
    let tickets : c.claim_more-claimed.new.tickets.items ≡ ticket ∷ got.0 =
    got.2 ∙ ap (λ (l : List (Ticket g.row.S.Denot g.row.S-Job.Denot g.row.S-Reply.Denot)). l ++ got.0)
    (c.push_back_reserved.ensures.items ∙ ap (λ (l : List (Ticket g.row.S.Denot g.row.S-Job.Denot g.row.S-Reply.Denot)). l ++ ticket ∷ []) c.args.turn.now.idle.0) in
    record {
      others = got.0;
      count_is = got.1;
      after_is = got.3 ∙ ap (λ (p : Pass g.row.S-Job.Denot). with_tickets p got.0) c.waiting-waiting.ensures.same;
      more = posted.more;
      book_is = posted.book_is;
      answered = answered_all (ticket ∷ got.0) c.answer_all.new.parcels.items posted.more
          (subst (λ (l : List (Ticket g.row.S.Denot g.row.S-Job.Denot g.row.S-Reply.Denot)). AnswerEach l c.answer_all.new.parcels.items) tickets c.answer_all.ensures.answers) posted.sent;
    }
