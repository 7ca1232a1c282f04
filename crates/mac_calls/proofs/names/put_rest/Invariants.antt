use Rattle.std.proofs.Common.{◌≡◌, ◌++◌, take}
use Rattle.std.specs.List.{flat_map}
use Rattle.mac_keys.specs.Names.{told}
use Rattle.mac_calls.specs.Names.{behind_comma, names_in}
use Rattle.mac_calls.proofs.names.put_rest.Given as goal

abbrev pub invariant-loop-name : goal.invariant-loop-name
invariant-loop-name l =
    l.json.items ≡ l.fn.json.items ++ flat_map behind_comma (names_in (told (take l.name-index l.names)))
