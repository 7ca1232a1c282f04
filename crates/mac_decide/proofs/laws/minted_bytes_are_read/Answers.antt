use Rattle.mac_decide.proofs.CarriedLemmas.{mint-carried}
use Rattle.mac_decide.proofs.laws.minted_bytes_are_read.Goals as goal

pub returns : goal.returns
returns c = mint-carried
