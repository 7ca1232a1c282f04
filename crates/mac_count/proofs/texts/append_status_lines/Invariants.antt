use Rattle.std.proofs.Common.{◌≡◌, ◌++◌, take}
use Rattle.std.specs.List.{flat_map}
use Rattle.mac_count.specs.Texts.{status_line}
use Rattle.mac_count.proofs.texts.append_status_lines.Given as goal

abbrev pub invariant-loop-number : goal.invariant-loop-number
invariant-loop-number l = l.out.items ≡ l.fn.out.items ++ flat_map (status_line l.snapshot) (take l.number-index l.numbers)
