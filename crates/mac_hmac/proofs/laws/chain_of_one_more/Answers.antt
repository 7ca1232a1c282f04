use Rattle.mac_hmac.proofs.ChainLemmas.{chain-one_more}
use Rattle.mac_hmac.proofs.laws.chain_of_one_more.Goals as goal

pub returns : goal.returns
returns c = chain-one_more
