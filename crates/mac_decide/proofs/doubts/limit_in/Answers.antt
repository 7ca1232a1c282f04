use Rattle.mac_decide.proofs.DoubtLemmas.{limit_read}
use Rattle.mac_decide.proofs.doubts.limit_in.Goals as goal

pub returns : goal.returns
returns c = limit_read c.args.caveat.now c.time_limit.result c.time_limit.ensures
