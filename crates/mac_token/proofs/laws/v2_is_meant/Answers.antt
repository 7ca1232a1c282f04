use Rattle.mac_token.proofs.V2Whole.{v2_takes, v2_again}
use Rattle.mac_token.proofs.laws.v2_is_meant.Goals as goal

pub returns : goal.returns
returns c = λ bytes r fits. (v2_again bytes r, v2_takes bytes r fits)
