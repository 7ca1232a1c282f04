use Rattle.mac_http.proofs.MintLemmas.{not_under_another}
use Rattle.mac_http.proofs.laws.no_token_is_minted_under_another_name.Goals as goal

pub returns : goal.returns
returns c = not_under_another
