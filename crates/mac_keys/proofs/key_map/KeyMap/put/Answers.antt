use Rattle.mac_keys.proofs.Names.{insert-seen}
use Rattle.mac_keys.proofs.key_map.KeyMap.put.Goals as goal

pub returns-clause-ok : goal.returns-clause-ok
returns-clause-ok c = (
  c.in_ok-keys.ensures.0,
  insert-seen c.self.inside.keys.entries _ _ c.in_ok-name.name _ _ _ c.self.view_is c.in_ok-insert.ensures.entries c.in_ok-name.ensures.items c.in_ok-keys.ensures.1,
)
