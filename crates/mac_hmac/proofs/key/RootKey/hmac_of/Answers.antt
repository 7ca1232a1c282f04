use Rattle.mac_hmac.specs.Hmac.{hmac, inner_block, outer_block}
use Rattle.mac_hmac.proofs.BegunLemmas.{begun-inner, begun-outer}
use Rattle.mac_hmac.proofs.key.RootKey.hmac_of.Goals as goal

pub returns : goal.returns
unfolding hmac
returns c =
    let key = c.args.self.now in
    c.nested_digest_from.ensures (outer_block key) (inner_block key)
    (begun-outer _ _ _ c.self.view_is c.self.invariant.1)
    (begun-inner _ _ _ c.self.view_is c.self.invariant.0)
