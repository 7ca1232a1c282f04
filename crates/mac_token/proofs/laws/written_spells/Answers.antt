use Rattle.mac_token.proofs.WrittenLaws.{written_spells}
use Rattle.mac_token.proofs.laws.written_spells.Goals as goal

pub returns : goal.returns
returns c = written_spells
