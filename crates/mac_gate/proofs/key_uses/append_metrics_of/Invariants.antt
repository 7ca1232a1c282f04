use Rattle.std.proofs.Common.{◌≡◌, ◌++◌, take}
use Rattle.std.specs.List.{flat_map}
use Rattle.mac_gate.specs.KeyUses.{metric_if_used}
use Rattle.mac_gate.proofs.key_uses.append_metrics_of.Given as goal

abbrev pub invariant-loop-used : goal.invariant-loop-used
invariant-loop-used l = l.out.items ≡ l.fn.out.items ++ flat_map (metric_if_used l.counts) (take l.used-index l.uses)
