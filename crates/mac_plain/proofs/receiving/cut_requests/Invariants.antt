use Rattle.std.proofs.Common.{◌-◌, length}
use Rattle.mac_plain.specs.Receiving.{CutsTo}
use Rattle.mac_plain.proofs.receiving.cut_requests.Given as goal

-- what lies before the place was cut into requests
abbrev pub invariant-loop-payload : goal.invariant-loop-payload
invariant-loop-payload l = CutsTo l.arena l.from l.at l.owner l.initial.requests.items l.requests.items

abbrev pub decreases-loop-payload : goal.decreases-loop-payload
decreases-loop-payload l = length l.arena - l.at
