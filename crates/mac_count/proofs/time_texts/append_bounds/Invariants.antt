use Rattle.std.proofs.Common.{◌≡◌, ◌++◌, take}
use Rattle.std.specs.List.{flat_map}
use Rattle.mac_count.specs.TimeTexts.{bound_line}
use Rattle.mac_count.proofs.time_texts.append_bounds.Given as goal

abbrev pub invariant-loop-bound : goal.invariant-loop-bound
invariant-loop-bound l = l.out.items ≡ l.fn.out.items ++ flat_map (bound_line l.front l.middle l.snapshot) (take l.bound-index l.bounds)
