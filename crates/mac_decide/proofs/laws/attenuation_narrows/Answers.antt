use Rattle.mac_decide.proofs.NarrowingLemmas.{Minted-add, Accepts-add}
use Rattle.mac_decide.proofs.laws.attenuation_narrows.Goals as goal

pub returns-clause-minted : goal.returns-clause-minted
returns-clause-minted c = Minted-add

pub returns-clause-accepted : goal.returns-clause-accepted
returns-clause-accepted c = Accepts-add
