use Rattle.std.proofs.Common.{sym, ◌∙◌, ap}
use Rattle.std.specs.Arc.{arc_value}
use Rattle.std.specs.Option.{option_map_or}
use Rattle.mac_keys.specs.Revoked.{nothing}
use Rattle.mac_keys.proofs.RevokedLemmas.{listed-nothing}
use Rattle.mac_keys.proofs.revoked.RevokedList.has_hashed.Goals as goal

pub returns-in-None : goal.returns-in-None
returns-in-None c =
    sym (listed-nothing _ c.args.name.now c.args.identifier.now (sym c.self.view_is ∙ ap (λ held. option_map_or (λ h. arc_value h) held nothing) c.in-None.is))
