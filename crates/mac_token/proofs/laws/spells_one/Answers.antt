use Rattle.mac_token.proofs.ReadLemmas.{spells_one}
use Rattle.mac_token.proofs.laws.spells_one.Goals as goal

pub returns : goal.returns
returns c = spells_one
