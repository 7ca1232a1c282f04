use Rattle.mac_plain.proofs.Living.{keeps-step}
use Rattle.mac_plain.proofs.laws.a_step_keeps_lives.Goals as goal

pub returns : goal.returns
returns g c = keeps-step g.P.Port.tells g.P.Port.taken g.P.Port.written
