use Rattle.mac_http.proofs.TurnLemmas.{faced_from}
use Rattle.mac_http.proofs.laws.turns_are_faced.Goals as goal

pub returns : goal.returns
returns g c = faced_from g.S.Service.answers
