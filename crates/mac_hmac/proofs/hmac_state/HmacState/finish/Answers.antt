use Rattle.std.proofs.Common.{◌++◌, ◌∙◌, ap, List, ℕ}
use Rattle.sha2.specs.Sha256.{sha256}
use Rattle.mac_hmac.specs.Hmac.{hmac, inner_block, outer_block}
use Rattle.mac_hmac.proofs.hmac_state.HmacState.finish.Goals as goal

pub returns : goal.returns
unfolding hmac
returns c key text holds =
    let digest = c.finalize-digest.ensures (inner_block key ++ text) holds.inner in
    let fed = c.update.ensures (outer_block key) holds.outer in
    c.finalize.ensures _ fed ∙ ap (λ (inner : List ℕ). sha256 (outer_block key ++ inner)) digest
