use Rattle.std.proofs.Common.{map}
use Rattle.mac_decide.proofs.SendableLemmas.{results-sent}
use Rattle.mac_decide.specs.Viewed.{viewed}
use Rattle.mac_decide.proofs.side_by_side.answer_run.Goals as goal

pub returns-clause-sendable : goal.returns-clause-sendable
returns-clause-sendable c = results-sent _ (map viewed c.args.jobs.now) c.replies_to-replies.ensures
