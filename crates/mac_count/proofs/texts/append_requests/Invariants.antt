use Rattle.std.proofs.Common.{◌≡◌, ◌++◌, take}
use Rattle.std.specs.List.{flat_map}
use Rattle.mac_count.specs.Texts.{metrics_of}
use Rattle.mac_count.proofs.texts.append_requests.Given as goal

abbrev pub invariant-loop-what : goal.invariant-loop-what
invariant-loop-what l = l.out.items ≡ l.fn.out.items ++ flat_map (metrics_of l.snapshot) (take l.what-index l.asked)
