use Rattle.std.proofs.Common.{◌≡◌}
use Rattle.mac_gate.specs.Answered.{GoesByTurns, known_to}
use Rattle.mac_gate.proofs.looping.HttpLoop.advance_ready.Given as goal

abbrev pub invariant-loop-turn : goal.invariant-loop-turn
invariant-loop-turn g l = record {
  offer : l.self.offer ≡ l.fn.self.offer;
  turns : GoesByTurns (known_to l.fn.answering.keys) (known_to l.answering.keys);
}
