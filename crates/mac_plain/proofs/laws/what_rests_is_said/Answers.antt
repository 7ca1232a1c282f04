use Rattle.mac_plain.proofs.Living.{rests-said}
use Rattle.mac_plain.proofs.laws.what_rests_is_said.Goals as goal

pub returns : goal.returns
returns c = λ rights came went session r. rests-said rights came went session r
