use Rattle.mac_decide.proofs.NarrowingLemmas.{Accepts-more}
use Rattle.mac_decide.proofs.laws.facts_only_help.Goals as goal

pub returns : goal.returns
returns c = Accepts-more
