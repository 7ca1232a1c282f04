use Rattle.mac_token.proofs.V1Written.{v1_bytes_spell}
use Rattle.mac_token.proofs.laws.v1_is_read_again.Goals as goal

pub returns : goal.returns
returns c = v1_bytes_spell
