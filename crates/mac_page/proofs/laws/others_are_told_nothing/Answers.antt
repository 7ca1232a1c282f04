use Rattle.mac_page.proofs.HomeLemmas.{others_told}
use Rattle.mac_page.proofs.laws.others_are_told_nothing.Goals as goal

pub returns : goal.returns
returns c site request response no_file foreign told = others_told site request response no_file foreign told
