use Rattle.mac_token.proofs.V1Laws.{v1_takes, v1_again}
use Rattle.mac_token.proofs.laws.v1_is_meant.Goals as goal

pub returns : goal.returns
returns c = λ bytes r. (v1_again bytes r, v1_takes bytes r)
