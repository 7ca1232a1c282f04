use Rattle.mac_decide.proofs.AnswerLemmas.{answer-granted}
use Rattle.mac_decide.proofs.laws.verify_is_granted.Goals as goal

pub returns : goal.returns
returns c = answer-granted
