use Rattle.std.proofs.Common.{sym, ◌∙◌, ap}
use Rattle.std.specs.FinMap as map
use Rattle.mac_keys.proofs.Names.{get-by_name}
use Rattle.mac_keys.proofs.key_map.KeyMap.find.Goals as goal

pub returns : goal.returns
returns c =
    c.get.ensures.value
    ∙ sym (get-by_name c.self.inside.keys.entries c.args.name.now)
    ∙ ap (λ keys. map.get keys c.args.name.now) c.self.view_is
