use Rattle.std.proofs.Common.{◌+◌, ◌-◌, List, drop, take, take_all, rules, subst, arith}
use Rattle.mac_board.specs.Noticed.{lent_current}
use Rattle.mac_plain.specs.Goes.{AreAnswered}
use Rattle.mac_plain.specs.Requests.{asked_of}
use Rattle.mac_plain.specs.declared.request.RoundRequest.{RoundRequest}
use Rattle.mac_plain.proofs.Pairs.{more_answered, nobody_goes, run_more}
use Rattle.mac_plain.proofs.answering.answer_apart.Goals as goal

pub loop-index-init : goal.loop-index-init
loop-index-init g c = nobody_goes g.P.Port.tells g.P.Port.taken g.P.Port.written (lent_current c.args.run.current) c.args.clients.now

pub loop-index-preserved : goal.loop-index-preserved
loop-index-preserved g c =
    let i = c.loop-index.index in
    let run = c.args.run.requests.now in
    subst (λ (l : List RoundRequest). AreAnswered g.P.Port.tells g.P.Port.taken g.P.Port.written (lent_current c.args.run.current) (λ k. asked_of k c.args.run.arena.now l) c.args.clients.now c.answer_alone.new.clients)
    (run_more i (i + 1) run (omega arith))
    (more_answered g.P.Port.tells g.P.Port.taken g.P.Port.written (lent_current c.args.run.current) c.args.run.arena.now (take i run) (take ((i + 1) - i) (drop i run)) c.args.clients.now c.loop-index.clients
    c.answer_alone.new.clients (search rules) c.loop-index.invariant c.answer_alone.ensures)

pub returns : goal.returns
returns g c =
    subst (λ (l : List RoundRequest). AreAnswered g.P.Port.tells g.P.Port.taken g.P.Port.written (lent_current c.args.run.current) (λ k. asked_of k c.args.run.arena.now l) c.args.clients.now c.loop-index.clients)
    (take_all c.loop-index.index c.args.run.requests.now (omega (arith, c.loop-index-test.false))) c.loop-index.invariant
