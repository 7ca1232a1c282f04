use Rattle.mac_plain.proofs.Living.{says}
use Rattle.mac_plain.proofs.laws.lives_are_said.Goals as goal

pub returns : goal.returns
returns c = λ rights came went goes session l. says rights came went goes session l
