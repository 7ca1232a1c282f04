use Rattle.mac_decide.proofs.ReadingLemmas.{since_of-exact}
use Rattle.mac_decide.proofs.laws.time_since_reads.Goals as goal

pub returns : goal.returns
returns c = since_of-exact
