use Rattle.mac_http.proofs.NameLemmas.{told_to_holders}
use Rattle.mac_http.proofs.laws.names_are_told_to_holders_alone.Goals as goal

pub returns : goal.returns
returns c = told_to_holders
