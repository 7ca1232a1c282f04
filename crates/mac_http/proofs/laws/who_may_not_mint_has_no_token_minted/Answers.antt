use Rattle.mac_http.proofs.MintLemmas.{denied, not_minted}
use Rattle.mac_http.proofs.laws.who_may_not_mint_has_no_token_minted.Goals as goal

pub returns : goal.returns
returns c = λ table rules moment request below response why path answer.
    not_minted table rules moment request below response (denied rules why) path answer
