use Rattle.std.proofs.Common.{sym, ◌∙◌, ap}
use Rattle.std.specs.Arc.{arc_value}
use Rattle.std.specs.Option.{option_map_or}
use Rattle.mac_keys.specs.Revoked.{nothing}
use Rattle.mac_keys.proofs.RevokedLemmas.{listed-nothing}
use Rattle.mac_keys.proofs.revoked.RevokedList.is_without.Goals as goal

pub returns-in-None : goal.returns-in-None
returns-in-None c _ identifier =
    listed-nothing _ c.args.name.now identifier (sym c.self.view_is ∙ ap (λ held. option_map_or (λ h. arc_value h) held nothing) c.in-None.is)
