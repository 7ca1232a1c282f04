use Rattle.std.proofs.Common.{◌≡◌, take}
use Rattle.std.specs.List.{flat_map}
use Rattle.mac_keys.specs.Names.{told}
use Rattle.mac_words.specs.NameList.{line_of}
use Rattle.mac_words.proofs.name_list.list_names.Given as goal

abbrev pub invariant-loop-name : goal.invariant-loop-name
invariant-loop-name l = l.text.items ≡ flat_map (line_of l.table) (told (take l.name-index l.name-items))
