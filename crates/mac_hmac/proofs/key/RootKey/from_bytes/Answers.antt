use Rattle.std.proofs.Common.{sym, ap, ◌∙◌}
use Rattle.sha2.specs.Sha256.{compress, initial_hash_256}
use Rattle.mac_hmac.specs.Hmac.{inner_block, outer_block}
use Rattle.mac_hmac.proofs.key.RootKey.from_bytes.Goals as goal

pub invariant_of-result : goal.invariant_of-result
unfolding inner_block outer_block
invariant_of-result c = (
  sym (c.begin.ensures.is ∙ ap (compress initial_hash_256) c.padded_key.ensures),
  sym (c.begin-2.ensures.is ∙ ap (compress initial_hash_256) c.padded_key-2.ensures),
)
