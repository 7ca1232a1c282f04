use Rattle.mac_decide.proofs.RevokedLaws.{empty-arrival, empty-request}
use Rattle.mac_decide.proofs.laws.empty_list_changes_nothing.Goals as goal

pub returns-clause-arrival : goal.returns-clause-arrival
returns-clause-arrival c = empty-arrival

pub returns-clause-request : goal.returns-clause-request
returns-clause-request c = empty-request
