use Rattle.std.proofs.Common.{◌∙◌}
use Rattle.mac_hmac.specs.Chain.{root_of, key_generator}
use Rattle.mac_hmac.proofs.key.root_key.Goals as goal

pub returns : goal.returns
unfolding root_of key_generator
returns c = c.from_bytes.ensures ∙ c.hmac.ensures
