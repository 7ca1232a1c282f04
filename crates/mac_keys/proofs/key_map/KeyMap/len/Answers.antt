use Rattle.std.proofs.Common.{sym, ◌∙◌, ap}
use Rattle.std.specs.FinMap as map
use Rattle.mac_keys.proofs.Names.{len-by_name}
use Rattle.mac_keys.proofs.key_map.KeyMap.len.Goals as goal

pub returns : goal.returns
returns c =
    c.len.ensures.len
    ∙ sym (len-by_name c.self.inside.keys.entries c.len.ensures.ordered)
    ∙ ap map.len c.self.view_is
