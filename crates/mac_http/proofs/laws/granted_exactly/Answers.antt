use Rattle.mac_http.proofs.LawLemmas.{granted_back, granted_forth}
use Rattle.mac_http.proofs.laws.granted_exactly.Goals as goal

pub returns : goal.returns
returns c = λ table rules moment head. (granted_forth table rules moment head, granted_back table rules moment head)
