use Rattle.std.proofs.Common.{◌∙◌, arith, refl}
use Rattle.mac_hmac.specs.Hmac.{block_key}
use Rattle.mac_hmac.proofs.HmacLemmas.{fitted_key-short}
use Rattle.mac_hmac.proofs.hmac_state.padded_key.Goals as goal

pub returns : goal.returns
unfolding block_key
returns c = c.padded.ensures ∙ rw (fitted_key-short c.args.key.now (omega arith)) refl
