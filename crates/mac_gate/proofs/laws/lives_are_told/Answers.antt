use Rattle.mac_gate.proofs.LifeLemmas.{says, says_all}
use Rattle.mac_gate.proofs.laws.lives_are_told.Goals as goal

pub returns-clause-said : goal.returns-clause-said
returns-clause-said c offer by flow heard connection lives = says offer by flow heard connection lives

pub returns-clause-all : goal.returns-clause-all
returns-clause-all c offer by flow heard connection lives done = says_all offer by flow heard connection done lives
