use Rattle.mac_plain.proofs.Living.{says-too-long}
use Rattle.mac_plain.proofs.laws.what_ended_too_long_is_all.Goals as goal

pub returns : goal.returns
returns c = λ rights came went session sent l. says-too-long rights came went session sent l
