use Rattle.mac_gate.proofs.LawLemmas.{no_page_told}
use Rattle.mac_gate.proofs.laws.no_page_is_told_elsewhere.Goals as goal

pub returns : goal.returns
returns c own by came went said = no_page_told own by came went said
