use Rattle.mac_keys.proofs.RevokedLemmas.{added-seen}
use Rattle.mac_keys.proofs.revoked.Identifiers.add.Goals as goal

pub returns : goal.returns
returns c = added-seen c.self.inside.held.keys _ _ c.args.identifier _ c.self.view_is c.in_ok-insert.ensures.added c.in_ok-insert.ensures.keys
