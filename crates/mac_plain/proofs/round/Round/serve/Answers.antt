use Rattle.std.proofs.Common.{ℕ, List, rules, subst}
use Rattle.mac_board.specs.Noticed.{lent_current}
use Rattle.mac_plain.specs.Goes.{AreAnswered}
use Rattle.mac_plain.specs.Requests.{asked_of}
use Rattle.mac_plain.specs.declared.request.RoundRequest.{RoundRequest}
use Rattle.mac_plain.proofs.Pairs.{all_served}
use Rattle.mac_plain.proofs.round.Round.serve.Goals as goal

pub returns-clause-serves : goal.returns-clause-serves
returns-clause-serves g c =
    let arena = c.receive_all.new.intake.arena.items in
    let requests = c.receive_all.new.intake.requests.items in
    let current = lent_current c.current.result in
    let each = all_served g.P.Port.tells g.P.Port.taken g.P.Port.written current (λ k. asked_of k arena requests) c.args.clients.now c.receive_all.new.clients
    c.answer_requests.new.clients c.flush_all.new.clients (search rules) (search rules) (c.receive_all.ensures.read current)
    (subst (λ (l : List RoundRequest). AreAnswered g.P.Port.tells g.P.Port.taken g.P.Port.written current (λ k. asked_of k arena l) c.receive_all.new.clients c.answer_requests.new.clients)
    c.as_slice-2.ensures.value
    (subst (λ (l : List ℕ). AreAnswered g.P.Port.tells g.P.Port.taken g.P.Port.written current (λ k. asked_of k l c.as_slice-2.result.now) c.receive_all.new.clients c.answer_requests.new.clients)
    c.as_slice.ensures.value c.answer_requests.ensures))
    (c.flush_all.ensures current) in
    record { current = current; is_current = c.current.ensures; each = each }
