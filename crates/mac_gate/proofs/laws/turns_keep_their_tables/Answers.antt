use Rattle.mac_gate.proofs.AnsweredLemmas.{keep_order}
use Rattle.mac_gate.proofs.laws.turns_keep_their_tables.Goals as goal

pub returns : goal.returns
returns c was is turns are = keep_order was is turns are
