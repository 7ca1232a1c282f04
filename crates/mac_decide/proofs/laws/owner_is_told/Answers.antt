use Rattle.mac_decide.proofs.NowLemmas.{owner-same, owner-told}
use Rattle.mac_decide.proofs.laws.owner_is_told.Goals as goal

pub returns-clause-same : goal.returns-clause-same
returns-clause-same c = owner-same

pub returns-clause-told : goal.returns-clause-told
returns-clause-told c = owner-told
