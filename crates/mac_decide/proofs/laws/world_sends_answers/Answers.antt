use Rattle.mac_decide.proofs.WorldLemmas.{world-answers}
use Rattle.mac_decide.proofs.laws.world_sends_answers.Goals as goal

pub returns : goal.returns
returns c = world-answers
