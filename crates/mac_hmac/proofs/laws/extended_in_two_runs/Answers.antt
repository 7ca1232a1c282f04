use Rattle.mac_hmac.proofs.ChainLemmas.{extended-append}
use Rattle.mac_hmac.proofs.laws.extended_in_two_runs.Goals as goal

pub returns : goal.returns
returns c = extended-append
