use Rattle.std.proofs.Common.{sym, ◌∙◌}
use Rattle.mac_keys.proofs.RevokedLemmas.{get-seen, listed-none, listed-some}
use Rattle.mac_keys.proofs.revoked.Lists.has.Goals as goal

pub returns-in-Some : goal.returns-in-Some
returns-in-Some c =
    c.has.ensures
    ∙ sym (listed-some _ c.args.name.now c.args.identifier.now _ (get-seen c.self.inside.names.entries _ c.args.name.now _ c.self.view_is c.in-Some.ensures.value))

pub returns-in-None : goal.returns-in-None
returns-in-None c =
    sym (listed-none _ c.args.name.now c.args.identifier.now (get-seen c.self.inside.names.entries _ c.args.name.now _ c.self.view_is c.in-None.ensures.value))
