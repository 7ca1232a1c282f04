use Rattle.std.proofs.Common.{◌≡◌, map, arith}
use Rattle.std.proofs.lemmas.Grind.{common_steps}
use Rattle.mac_decide.proofs.SendableLemmas.{replies-sent}
use Rattle.mac_decide.specs.Prepared.{reply_to_job}
use Rattle.mac_decide.specs.Viewed.{viewed}
use Rattle.mac_decide.proofs.side_by_side.answer_views.Goals as goal

pub returns-clause-sendable : goal.returns-clause-sendable
returns-clause-sendable c =
    let jobs = map viewed c.args.jobs.now in
    let are : c.loop-run.replies.items ≡ map reply_to_job jobs = grind (arith, common_steps) in
    rw are (replies-sent jobs)
