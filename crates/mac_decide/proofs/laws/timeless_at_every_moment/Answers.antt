use Rattle.mac_decide.proofs.NarrowingLemmas.{Accepts-timeless}
use Rattle.mac_decide.proofs.laws.timeless_at_every_moment.Goals as goal

pub returns : goal.returns
returns c = Accepts-timeless
