use Rattle.std.proofs.Common.{◌≡◌}
use Rattle.mac_loop.specs.Told.{HasTold}
use Rattle.mac_loop.proofs.looping.Loop.take_turns.Given as goal

abbrev pub invariant-loop : goal.invariant-loop
invariant-loop g l = record {
  desk : l.asks ≡ l.fn.asks;
  told : HasTold l.self;
}
