use Rattle.mac_decide.proofs.VerdictLemmas.{verdict_of-is, one_verdict}
use Rattle.mac_decide.proofs.laws.verdict_is_read.Goals as goal

pub returns-clause-function : goal.returns-clause-function
returns-clause-function c = verdict_of-is

pub returns-clause-one : goal.returns-clause-one
returns-clause-one c = one_verdict
