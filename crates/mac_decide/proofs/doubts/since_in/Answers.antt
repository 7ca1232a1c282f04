use Rattle.mac_decide.proofs.DoubtLemmas.{since_read}
use Rattle.mac_decide.proofs.doubts.since_in.Goals as goal

pub returns : goal.returns
returns c = since_read c.args.caveat.now c.time_since.result c.time_since.ensures
