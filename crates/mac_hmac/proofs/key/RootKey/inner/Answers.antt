use Rattle.mac_hmac.proofs.BegunLemmas.{begun-inner}
use Rattle.mac_hmac.proofs.key.RootKey.inner.Goals as goal

pub returns : goal.returns
returns c = begun-inner _ _ _ c.self.view_is c.self.invariant.0
