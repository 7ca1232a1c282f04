use Rattle.std.proofs.Common.{◌-◌, length}
use Rattle.std.specs.Prelude.{Ok}
use Rattle.mac_order.specs.declared.outlet.TheConstants.{OPEN_SLIPS_MAX}
use Rattle.mac_serve.specs.Sending.{StepsAlone}
use Rattle.mac_serve.proofs.outbound.Outbound.look.Given as goal

abbrev pub invariant-loop-found : goal.invariant-loop-found
invariant-loop-found l = StepsAlone (Ok (tt {0})) l.initial.self l.self

abbrev pub decreases-loop-found : goal.decreases-loop-found
decreases-loop-found l = OPEN_SLIPS_MAX - length l.self.ring.buffer.slips
