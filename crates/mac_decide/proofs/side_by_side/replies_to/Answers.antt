use Rattle.std.proofs.Common.{◌≡◌, ◌+◌, ◌∷◌, drop, map, rules, arith}
use Rattle.std.proofs.lemmas.List.{take_rest}
use Rattle.mac_decide.specs.Prepared.{reply_to_job}
use Rattle.mac_decide.specs.Viewed.{viewed}
use Rattle.mac_decide.proofs.SeenLemmas.{dues-around}
use Rattle.mac_decide.proofs.side_by_side.replies_to.Goals as goal

pub returns-in_default : goal.returns-in_default
returns-in_default c =
    let jobs = c.args.jobs.now in
    let place = c.loop-place.place in
    let job = c.index-jobs-place.result in
    let others : c.in_ok-others-in_default.others.items ≡ reply_to_job (viewed job) ∷ map reply_to_job (map viewed (drop (place + 1) jobs)) =
    search (rules, take_rest jobs (place + 1), c.in_ok-first.ensures, c.in_ok-others-in_default.ensures) in
    let all = dues-around jobs place job (omega (arith, c.loop-place-test.true)) c.index-jobs-place.is in
    search (rules, all, others, c.join.ensures, c.loop-place.invariant.replies)
