use Rattle.mac_decide.proofs.RightsLemmas.{names-narrow}
use Rattle.mac_decide.proofs.laws.other_names_have_no_keys.Goals as goal

pub returns : goal.returns
returns c = names-narrow
