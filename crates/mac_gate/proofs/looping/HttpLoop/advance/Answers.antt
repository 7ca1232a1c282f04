use Rattle.mac_gate.specs.Answered.{known_to}
use Rattle.mac_gate.specs.Going.{past_at}
use Rattle.mac_gate.proofs.AnsweredLemmas.{by_turn}
use Rattle.mac_gate.proofs.GoingLemmas.{offers-stay}
use Rattle.mac_gate.proofs.looping.HttpLoop.advance.Goals as goal

pub invariant_of-self : goal.invariant_of-self
invariant_of-self g c = record {
  offered = offers-stay c.args.self.now.offer.value c.args.self.now.connections.connections.slots c.advance.new.self.connections.slots c.advance.ensures.stay c.args.self.now.offered;
}

pub returns-clause-turns : goal.returns-clause-turns
returns-clause-turns g c =
    by_turn (past_at c.args.self.now.connections.connections.slots c.args.slot) (past_at c.advance.new.self.connections.slots c.args.slot)
    (known_to c.args.answering.now.keys) (known_to c.advance.new.answering.keys) c.advance.ensures.turn

pub returns-then-not-advance-clause-turns : goal.returns-then-not-advance-clause-turns
returns-then-not-advance-clause-turns g c =
    by_turn (past_at c.args.self.now.connections.connections.slots c.args.slot) (past_at c.advance.new.self.connections.slots c.args.slot)
    (known_to c.args.answering.now.keys) (known_to c.advance.new.answering.keys) c.advance.ensures.turn
