use Rattle.mac_token.proofs.Base64Spelling.{base64_of_is_base64}
use Rattle.mac_token.proofs.laws.base64_is_read_again.Goals as goal

pub returns : goal.returns
returns c = base64_of_is_base64
