use Rattle.mac_page.proofs.HomeLemmas.{home_is_named}
use Rattle.mac_page.proofs.laws.host_is_the_site.Goals as goal

pub returns : goal.returns
returns c site head home = home_is_named site head home
