use Rattle.mac_token.proofs.Within.{is_within-Decides}
use Rattle.mac_token.proofs.laws.limits_are_tested.Goals as goal

pub returns : goal.returns
returns c = is_within-Decides
