use Rattle.std.proofs.Common.{◌-◌}
use Rattle.mac_serve.specs.Room.{IsFreed}
use Rattle.mac_serve.proofs.outstanding.Outstanding.has_room.Given as goal

abbrev pub invariant-loop-self : goal.invariant-loop-self
invariant-loop-self l = IsFreed l.done l.initial.self l.self

abbrev pub decreases-loop-self : goal.decreases-loop-self
decreases-loop-self l = l.done - l.self.first
