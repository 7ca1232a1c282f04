use Rattle.mac_http.proofs.SignedLemmas.{noted_signed}
use Rattle.mac_http.proofs.laws.noted_tokens_are_signed.Goals as goal

pub returns : goal.returns
returns c = noted_signed
