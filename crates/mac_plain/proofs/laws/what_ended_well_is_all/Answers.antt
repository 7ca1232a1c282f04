use Rattle.mac_plain.proofs.Living.{says-all}
use Rattle.mac_plain.proofs.laws.what_ended_well_is_all.Goals as goal

pub returns : goal.returns
returns c = λ rights came went why session sent used l. says-all rights came went why session sent used l
