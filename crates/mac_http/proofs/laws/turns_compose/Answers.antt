use Rattle.mac_http.proofs.TurnLemmas.{turn_then}
use Rattle.mac_http.proofs.laws.turns_compose.Goals as goal

pub returns : goal.returns
returns g c = turn_then g.S.Service.answers
