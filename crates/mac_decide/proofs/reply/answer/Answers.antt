use Rattle.mac_decide.proofs.AnswerLemmas.{result-granted}
use Rattle.mac_decide.proofs.SendableLemmas.{result-sent}
use Rattle.mac_decide.proofs.reply.answer.Goals as goal

pub returns-clause-sendable : goal.returns-clause-sendable
returns-clause-sendable c = result-sent _ _ _ c.arrival_reply.ensures.reply

pub returns-clause-granted : goal.returns-clause-granted
returns-clause-granted c = result-granted _ _ _ c.arrival_reply.ensures.reply
