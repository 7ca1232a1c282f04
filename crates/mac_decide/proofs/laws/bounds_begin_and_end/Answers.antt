use Rattle.mac_decide.proofs.NarrowingLemmas.{Accepts-earlier, Accepts-later}
use Rattle.mac_decide.proofs.laws.bounds_begin_and_end.Goals as goal

pub returns-clause-earlier : goal.returns-clause-earlier
returns-clause-earlier c = Accepts-earlier

pub returns-clause-later : goal.returns-clause-later
returns-clause-later c = Accepts-later
