use Rattle.mac_decide.proofs.NarrowingLemmas.{Accepts-keys}
use Rattle.mac_decide.proofs.laws.keys_only_help.Goals as goal

pub returns : goal.returns
returns c = Accepts-keys
