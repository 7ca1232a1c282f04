use Rattle.mac_keys.proofs.RevokedLemmas.{get-seen, listed-none}
use Rattle.mac_keys.proofs.revoked.Lists.is_without.Goals as goal

pub returns-in-None : goal.returns-in-None
returns-in-None c _ identifier =
    listed-none _ c.args.name.now identifier (get-seen c.self.inside.names.entries _ c.args.name.now _ c.self.view_is c.in-None.ensures.value)
