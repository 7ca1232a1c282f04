use Rattle.mac_http.proofs.TurnLemmas.{noted_in}
use Rattle.mac_http.proofs.laws.turns_are_noted.Goals as goal

pub returns : goal.returns
returns g c = noted_in g.S.Service.answers
