use Rattle.mac_serve.proofs.OneTable.{one-jobs, one-answers}
use Rattle.mac_serve.proofs.laws.one_table_answers_all.Goals as goal

pub returns-clause-jobs : goal.returns-clause-jobs
returns-clause-jobs c = one-jobs

pub returns-clause-replies : goal.returns-clause-replies
returns-clause-replies c = one-answers
