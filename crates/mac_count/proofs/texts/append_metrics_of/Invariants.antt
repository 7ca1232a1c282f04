use Rattle.std.proofs.Common.{◌≡◌, ◌++◌, take}
use Rattle.mac_count.specs.Texts.{metrics_for}
use Rattle.mac_count.proofs.texts.append_metrics_of.Given as goal

abbrev pub invariant-loop-told : goal.invariant-loop-told
invariant-loop-told l = l.out.items ≡ l.fn.out.items ++ metrics_for l.snapshot l.asked (take l.told-index l.answers)
