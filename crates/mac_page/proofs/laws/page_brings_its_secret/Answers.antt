use Rattle.mac_page.proofs.HomeLemmas.{home_brings}
use Rattle.mac_page.proofs.laws.page_brings_its_secret.Goals as goal

pub returns : goal.returns
returns c site head home = home_brings site head home
