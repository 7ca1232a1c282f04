use Rattle.mac_token.proofs.JsonReadBack.{JsonText-json_bytes}
use Rattle.mac_token.proofs.laws.json_is_read_again.Goals as goal

pub returns : goal.returns
returns c = JsonText-json_bytes
