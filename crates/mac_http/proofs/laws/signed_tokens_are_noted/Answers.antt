use Rattle.mac_http.proofs.SignedLemmas.{signed_noted}
use Rattle.mac_http.proofs.laws.signed_tokens_are_noted.Goals as goal

pub returns : goal.returns
returns c = signed_noted
