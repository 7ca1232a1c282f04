use Rattle.mac_token.proofs.JsonRead.{json_takes, json_again}
use Rattle.mac_token.proofs.laws.json_is_meant.Goals as goal

pub returns : goal.returns
returns c = λ bytes r. (json_again bytes r, json_takes bytes r)
