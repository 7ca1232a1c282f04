use Rattle.mac_gate.proofs.LawLemmas.{all_guarded}
use Rattle.mac_gate.proofs.laws.pages_are_told_to_holders_alone.Goals as goal

pub returns : goal.returns
returns c site by came went said = all_guarded site by came went said
