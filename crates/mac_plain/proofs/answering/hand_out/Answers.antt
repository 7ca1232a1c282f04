use Rattle.std.proofs.Common.{◌≡◌, ◌+◌, ◌-◌, List, drop, get_or, take, take_all, rules, ap, subst, arith, ◌∙◌}
use Rattle.std.specs.Prelude.{Some, slice_get}
use Rattle.mac_decide.specs.Prepared.{reply_to_job}
use Rattle.mac_wire.specs.declared.reply.Reply.{Reply}
use Rattle.mac_plain.specs.Goes.{AreAnswered}
use Rattle.mac_plain.specs.Requests.{asked_of, job_at}
use Rattle.mac_plain.specs.declared.request.RoundRequest.{RoundRequest}
use Rattle.mac_plain.proofs.Pairs.{answered_at, job_kept, more_answered, nobody_goes, run_more, run_one, some_then}
use Rattle.mac_plain.proofs.answering.hand_out.Goals as goal

pub loop-index-init : goal.loop-index-init
loop-index-init g c current arena are = nobody_goes g.P.Port.tells g.P.Port.taken g.P.Port.written current c.args.clients.now

pub loop-index-preserved : goal.loop-index-preserved
loop-index-preserved g c current arena are =
    let i = c.loop-index.index in
    let run = c.args.run.now in
    let none : RoundRequest = record { owner = 0; start = 0; end = 0 } in
    let one = take ((i + 1) - i) (drop i run) in
    let it = get_or run i none in
    let kept = job_kept g.P.Port.tells g.P.Port.taken g.P.Port.written current (λ k. asked_of k arena (take i run)) arena it c.args.clients.now c.loop-index.clients (search rules) (c.loop-index.invariant current arena are) in
    let reply_is = some_then (λ r. slice_get c.args.replies.now i ≡ Some r.now) (λ r. r.now ≡ reply_to_job (job_at current arena it (slice_get c.loop-index.clients it.owner))) c.reply_at.result
    (λ r there. answered_at current c.args.clients.now arena run i none r.now (subst (λ (l : List Reply). slice_get l i ≡ Some r.now) are there) ∙ ap reply_to_job kept) c.reply_at.ensures.there in
    let given = c.give.ensures current arena (get_or run i none) (run_one i run none (omega (arith, c.loop-index-test.true))) reply_is in
    subst (λ (l : List RoundRequest). AreAnswered g.P.Port.tells g.P.Port.taken g.P.Port.written current (λ k. asked_of k arena l) c.args.clients.now c.give.new.clients) (run_more i (i + 1) run (omega arith))
    (more_answered g.P.Port.tells g.P.Port.taken g.P.Port.written current arena (take i run) one c.args.clients.now c.loop-index.clients c.give.new.clients (search rules)
    (c.loop-index.invariant current arena are) given)

pub returns : goal.returns
returns g c current arena are =
    subst (λ (l : List RoundRequest). AreAnswered g.P.Port.tells g.P.Port.taken g.P.Port.written current (λ k. asked_of k arena l) c.args.clients.now c.loop-index.clients)
    (take_all c.loop-index.index c.args.run.now (omega (arith, c.loop-index-test.false))) (c.loop-index.invariant current arena are)
