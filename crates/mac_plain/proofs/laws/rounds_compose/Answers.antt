use Rattle.mac_plain.proofs.Promises.{composes}
use Rattle.mac_plain.proofs.laws.rounds_compose.Goals as goal

pub returns : goal.returns
returns g c = composes g.P.Port.tells g.P.Port.taken g.P.Port.written
