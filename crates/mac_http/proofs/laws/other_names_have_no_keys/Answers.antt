use Rattle.mac_http.proofs.NameLemmas.{others_as_none}
use Rattle.mac_http.proofs.laws.other_names_have_no_keys.Goals as goal

pub returns : goal.returns
returns c = others_as_none
