use Rattle.mac_decide.proofs.RevokedLaws.{narrowed-alike}
use Rattle.mac_decide.proofs.laws.narrowed_follow_their_first.Goals as goal

pub returns : goal.returns
returns c = narrowed-alike
