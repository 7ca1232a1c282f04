use Rattle.mac_hmac.proofs.BegunLemmas.{begun-outer}
use Rattle.mac_hmac.proofs.key.RootKey.outer.Goals as goal

pub returns : goal.returns
returns c = begun-outer _ _ _ c.self.view_is c.self.invariant.1
