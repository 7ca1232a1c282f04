use Rattle.mac_token.proofs.V1Laws.{v1_one}
use Rattle.mac_token.proofs.laws.v1_spells_one.Goals as goal

pub returns : goal.returns
returns c = v1_one
