use Rattle.mac_token.proofs.Base64Read.{base64_takes, base64_again}
use Rattle.mac_token.proofs.laws.base64_is_meant.Goals as goal

pub returns : goal.returns
returns c = λ text bytes. (base64_again text bytes, base64_takes text bytes)
