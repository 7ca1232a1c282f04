use Rattle.mac_gate.proofs.LawLemmas.{never_mints}
use Rattle.mac_gate.proofs.laws.who_may_not_mint_never_mints.Goals as goal

pub returns : goal.returns
returns c own by came went said why = never_mints own by came went said why
