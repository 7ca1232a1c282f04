use Rattle.mac_decide.proofs.LackLemmas.{tells_satisfied}
use Rattle.mac_decide.proofs.lacks.is_satisfied.Goals as goal

pub returns : goal.returns
returns c = tells_satisfied c.satisfied.result c.args.caveat.now c.args.context.now c.satisfied.ensures
