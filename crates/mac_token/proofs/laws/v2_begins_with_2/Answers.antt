use Rattle.mac_token.proofs.V2Laws.{V2_first}
use Rattle.mac_token.proofs.laws.v2_begins_with_2.Goals as goal

pub returns : goal.returns
returns c = V2_first
