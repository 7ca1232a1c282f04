use Rattle.mac_page.proofs.PageLemmas.{paged_from}
use Rattle.mac_page.proofs.laws.turns_are_paged.Goals as goal

pub returns : goal.returns
returns g c = paged_from g.S.Service.answers
