use Rattle.std.proofs.Common.{◌≡◌, ◌++◌, take}
use Rattle.std.specs.List.{flat_map}
use Rattle.mac_count.specs.Texts.{lines_of}
use Rattle.mac_count.proofs.texts.append_request_lines.Given as goal

abbrev pub invariant-loop-what : goal.invariant-loop-what
invariant-loop-what l = l.out.items ≡ l.fn.out.items ++ flat_map (lines_of l.snapshot) (take l.what-index l.asked)
