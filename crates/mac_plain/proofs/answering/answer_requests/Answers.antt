use Rattle.std.proofs.Common.{List, rules, subst, sym}
use Rattle.mac_board.specs.Noticed.{lent_current}
use Rattle.mac_plain.specs.Goes.{AreAnswered}
use Rattle.mac_plain.specs.Requests.{asked_of}
use Rattle.mac_plain.specs.declared.request.RoundRequest.{RoundRequest}
use Rattle.mac_plain.proofs.Pairs.{more_answered}
use Rattle.mac_plain.proofs.answering.answer_requests.Goals as goal

pub returns : goal.returns
returns g c =
    subst (λ (l : List RoundRequest). AreAnswered g.P.Port.tells g.P.Port.taken g.P.Port.written (lent_current c.args.round.current) (λ k. asked_of k c.args.round.arena.now l) c.args.clients.now c.answer_rest.new.clients)
    (sym c.split_at.ensures.by_index.0)
    (more_answered g.P.Port.tells g.P.Port.taken g.P.Port.written (lent_current c.args.round.current) c.args.round.arena.now c.split_at.result.0.now c.split_at.result.1.now c.args.clients.now c.answer_runs.new.clients c.answer_rest.new.clients
    (search rules) c.answer_runs.ensures c.answer_rest.ensures)
