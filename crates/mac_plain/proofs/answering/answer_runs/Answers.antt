use Rattle.std.proofs.Common.{◌-◌, List, drop, take, take_all, rules, subst, arith}
use Rattle.mac_board.specs.Noticed.{lent_current}
use Rattle.mac_plain.specs.Goes.{AreAnswered}
use Rattle.mac_plain.specs.Requests.{asked_of}
use Rattle.mac_plain.specs.declared.request.RoundRequest.{RoundRequest}
use Rattle.mac_plain.proofs.Pairs.{more_answered, nobody_goes, run_more}
use Rattle.mac_plain.proofs.answering.answer_runs.Goals as goal

pub loop-at-init : goal.loop-at-init
loop-at-init g c = record { inside = omega arith; answered = nobody_goes g.P.Port.tells g.P.Port.taken g.P.Port.written (lent_current c.args.round.current) c.args.clients.now }

pub loop-at-preserved : goal.loop-at-preserved
loop-at-preserved g c =
    let at = c.loop-at.at in
    let end = c.min-end.result in
    let requests = c.args.round.requests.now in
    record {
      inside = omega (arith, c.min-end.ensures);
      answered = subst (λ (l : List RoundRequest). AreAnswered g.P.Port.tells g.P.Port.taken g.P.Port.written (lent_current c.args.round.current) (λ k. asked_of k c.args.round.arena.now l) c.args.clients.now
          c.answer_some.new.clients) (run_more at end requests (omega (arith, c.min-end.ensures, c.loop-at.invariant.inside)))
          (more_answered g.P.Port.tells g.P.Port.taken g.P.Port.written (lent_current c.args.round.current) c.args.round.arena.now (take at requests) (take (end - at) (drop at requests)) c.args.clients.now c.loop-at.clients
          c.answer_some.new.clients (search rules) c.loop-at.invariant.answered c.answer_some.ensures);
    }

pub returns : goal.returns
returns g c =
    subst (λ (l : List RoundRequest). AreAnswered g.P.Port.tells g.P.Port.taken g.P.Port.written (lent_current c.args.round.current) (λ k. asked_of k c.args.round.arena.now l) c.args.clients.now c.loop-at.clients)
    (take_all c.loop-at.at c.args.round.requests.now (omega (arith, c.loop-at-test.false))) c.loop-at.invariant.answered
