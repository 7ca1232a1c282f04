use Rattle.std.proofs.Common.{◌≡◌, ◌++◌, take}
use Rattle.std.specs.List.{flat_map}
use Rattle.mac_gate.specs.KeyUses.{metrics_of}
use Rattle.mac_gate.proofs.key_uses.append_metrics.Given as goal

abbrev pub invariant-loop-counts : goal.invariant-loop-counts
invariant-loop-counts l = l.out.items ≡ l.fn.out.items ++ flat_map metrics_of (take l.counts-index l.uses)
