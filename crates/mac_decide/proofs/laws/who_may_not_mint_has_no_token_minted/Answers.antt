use Rattle.mac_decide.proofs.RightsLemmas.{mint-refused, token-attenuates}
use Rattle.mac_decide.proofs.laws.who_may_not_mint_has_no_token_minted.Goals as goal

pub returns-clause-refused : goal.returns-clause-refused
returns-clause-refused c = mint-refused

pub returns-clause-narrowed : goal.returns-clause-narrowed
returns-clause-narrowed c = token-attenuates
