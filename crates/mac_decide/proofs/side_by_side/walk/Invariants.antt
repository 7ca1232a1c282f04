use Rattle.std.proofs.Common.{◌≡◌, map}
use Rattle.mac_decide.specs.Prepared.{comes_to}
use Rattle.mac_decide.proofs.side_by_side.walk.Given as goal

abbrev pub invariant-loop : goal.invariant-loop
invariant-loop l = map comes_to l.run ≡ map comes_to l.initial.run
