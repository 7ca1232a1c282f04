use Rattle.mac_decide.proofs.NowLemmas.{owner-granted}
use Rattle.mac_decide.proofs.laws.owner_is_granted.Goals as goal

pub returns : goal.returns
returns c = owner-granted
