use Rattle.mac_plain.proofs.Living.{moves-resting}
use Rattle.mac_plain.proofs.laws.what_may_move_rests.Goals as goal

pub returns : goal.returns
returns c = λ rights came went goes session may l. moves-resting rights came went goes session may l
