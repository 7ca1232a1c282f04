use Rattle.std.proofs.Common.{◌≡◌}
use Rattle.mac_loop.specs.Asks.{home_of}
use Rattle.mac_loop.proofs.asks.Asks.put_more.Given as goal

abbrev pub invariant-loop : goal.invariant-loop
invariant-loop g l = home_of l.self-inside.desk ≡ l.fn.self
