use Rattle.mac_decide.proofs.ReadingLemmas.{limit_of-exact}
use Rattle.mac_decide.proofs.laws.time_limit_reads.Goals as goal

pub returns : goal.returns
returns c = limit_of-exact
