use Rattle.mac_plain.specs.declared.course.Fall.TheVariants as fall
use Rattle.mac_plain.proofs.Steps.{answers_fall, answers_none}
use Rattle.mac_plain.proofs.client.Client.lose_answer.Goals as goal

pub returns-in-Awaiting-clause-answers : goal.returns-in-Awaiting-clause-answers
returns-in-Awaiting-clause-answers g c = answers_fall g.P.Port.tells g.P.Port.taken g.P.Port.written c.args.self.now fall.NoMemory

pub returns-in_default-clause-answers : goal.returns-in_default-clause-answers
returns-in_default-clause-answers g c = answers_none g.P.Port.tells g.P.Port.taken g.P.Port.written c.args.self.now
