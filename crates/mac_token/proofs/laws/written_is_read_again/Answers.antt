use Rattle.mac_token.proofs.WrittenLaws.{written_read}
use Rattle.mac_token.proofs.laws.written_is_read_again.Goals as goal

pub returns : goal.returns
returns c = written_read
