use Rattle.mac_decide.proofs.AnswerLemmas.{answer_of-asked}
use Rattle.mac_decide.proofs.laws.requests_are_answered_alike.Goals as goal

pub returns : goal.returns
returns c = answer_of-asked
