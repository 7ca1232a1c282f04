use Rattle.std.proofs.Common.{◌≡◌, ◌++◌}
use Rattle.mac_keys.specs.Names.{told}
use Rattle.mac_keys.proofs.Names.{counted}
use Rattle.mac_keys.proofs.key_map.KeyMap.names.Given as goal

abbrev pub invariant-loop-name : goal.invariant-loop-name
invariant-loop-name l = told l.names.items ++ counted l.name-iterator ≡ counted l.initial.name-iterator
