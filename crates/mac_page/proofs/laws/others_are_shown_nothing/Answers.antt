use Rattle.mac_page.proofs.HomeLemmas.{others_shown}
use Rattle.mac_page.proofs.laws.others_are_shown_nothing.Goals as goal

pub returns : goal.returns
returns c site request response file is_file foreign told = others_shown site request response file is_file foreign told
