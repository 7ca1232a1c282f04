use Rattle.std.proofs.Common.{◌≡◌, ◌++◌, take}
use Rattle.std.specs.List.{flat_map}
use Rattle.mac_keys.specs.Names.{told}
use Rattle.mac_gate.specs.KeyLines.{line_of}
use Rattle.mac_gate.proofs.key_lines.append_key_lines.Given as goal

abbrev pub invariant-loop-name : goal.invariant-loop-name
invariant-loop-name l =
    l.out.items ≡ l.fn.out.items ++ flat_map (line_of l.table) (told (take l.name-index l.name-items))
