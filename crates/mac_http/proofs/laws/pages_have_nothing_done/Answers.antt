use Rattle.mac_http.proofs.MintLemmas.{page_refused}
use Rattle.mac_http.proofs.laws.pages_have_nothing_done.Goals as goal

pub returns : goal.returns
returns c = page_refused
