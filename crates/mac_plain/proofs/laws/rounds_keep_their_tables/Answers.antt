use Rattle.mac_plain.proofs.Promises.{keeps-tables}
use Rattle.mac_plain.proofs.laws.rounds_keep_their_tables.Goals as goal

pub returns : goal.returns
returns g c = keeps-tables g.P.Port.tells g.P.Port.taken g.P.Port.written
