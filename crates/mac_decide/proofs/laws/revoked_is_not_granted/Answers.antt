use Rattle.mac_decide.proofs.RevokedLaws.{granted-unlisted}
use Rattle.mac_decide.proofs.laws.revoked_is_not_granted.Goals as goal

pub returns : goal.returns
returns c = granted-unlisted
