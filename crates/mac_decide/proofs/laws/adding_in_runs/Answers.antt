use Rattle.mac_decide.proofs.NarrowingLemmas.{add-add, add-minted}
use Rattle.mac_decide.proofs.laws.adding_in_runs.Goals as goal

pub returns-clause-added : goal.returns-clause-added
returns-clause-added c = add-add

pub returns-clause-minted : goal.returns-clause-minted
returns-clause-minted c = add-minted
