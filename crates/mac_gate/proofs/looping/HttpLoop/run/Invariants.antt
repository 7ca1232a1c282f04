use Rattle.std.proofs.Common.{◌≡◌}
use Rattle.mac_gate.specs.Answered.{GoesByTurns, known_to}
use Rattle.mac_gate.proofs.looping.HttpLoop.run.Given as goal

abbrev pub invariant-loop : goal.invariant-loop
invariant-loop g l = record {
  offer : l.self.offer ≡ l.fn.self.offer;
  turns : GoesByTurns (known_to l.fn.answering.keys) (known_to l.answering.keys);
}
