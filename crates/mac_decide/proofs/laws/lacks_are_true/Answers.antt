use Rattle.mac_decide.proofs.LackLemmas.{has_ended, is_ahead, nothing_lacks}
use Rattle.mac_decide.proofs.laws.lacks_are_true.Goals as goal

pub returns-clause-nothing : goal.returns-clause-nothing
returns-clause-nothing c = nothing_lacks

pub returns-clause-ended : goal.returns-clause-ended
returns-clause-ended c = has_ended

pub returns-clause-ahead : goal.returns-clause-ahead
returns-clause-ahead c = is_ahead
