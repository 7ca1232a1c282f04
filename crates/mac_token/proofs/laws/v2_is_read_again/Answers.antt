use Rattle.mac_token.proofs.V2Laws.{V2-v2_bytes}
use Rattle.mac_token.proofs.laws.v2_is_read_again.Goals as goal

pub returns : goal.returns
returns c = V2-v2_bytes
