use Rattle.std.proofs.Common.{sym, ◌∙◌}
use Rattle.mac_keys.proofs.RevokedLemmas.{contains-seen}
use Rattle.mac_keys.proofs.revoked.Identifiers.has.Goals as goal

pub returns : goal.returns
returns c = c.contains.ensures ∙ sym (contains-seen c.self.inside.held.keys _ c.args.identifier.now c.self.view_is)
