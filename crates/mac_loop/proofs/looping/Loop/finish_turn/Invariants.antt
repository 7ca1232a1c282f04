use Rattle.std.proofs.Common.{◌≡◌}
use Rattle.mac_loop.proofs.looping.Loop.finish_turn.Given as goal

abbrev pub invariant-loop : goal.invariant-loop
invariant-loop g l = l.asks ≡ l.fn.asks
