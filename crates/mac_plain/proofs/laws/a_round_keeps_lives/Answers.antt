use Rattle.mac_plain.proofs.Living.{keeps-lives}
use Rattle.mac_plain.proofs.laws.a_round_keeps_lives.Goals as goal

pub returns : goal.returns
returns g c = keeps-lives g.P.Port.tells g.P.Port.taken g.P.Port.written
