use Rattle.std.proofs.Common.{◌≡◌, ◌++◌, take}
use Rattle.mac_count.specs.Texts.{lines_for}
use Rattle.mac_count.proofs.texts.append_lines_of.Given as goal

abbrev pub invariant-loop-told : goal.invariant-loop-told
invariant-loop-told l = l.out.items ≡ l.fn.out.items ++ lines_for l.snapshot l.asked (take l.told-index l.answers)
