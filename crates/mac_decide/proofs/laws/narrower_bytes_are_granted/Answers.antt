use Rattle.mac_decide.proofs.CarriedLemmas.{granted-carried}
use Rattle.mac_decide.proofs.laws.narrower_bytes_are_granted.Goals as goal

pub returns : goal.returns
returns c = granted-carried
