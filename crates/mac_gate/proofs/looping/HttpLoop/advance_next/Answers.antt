use Rattle.mac_gate.specs.Answered.{known_to}
use Rattle.mac_gate.proofs.AnsweredLemmas.{by_no_turn}
use Rattle.mac_gate.proofs.GoingLemmas.{offers-keep, offers-same}
use Rattle.mac_gate.proofs.looping.HttpLoop.advance_next.Goals as goal

pub invariant_of-self : goal.invariant_of-self
invariant_of-self g c = record {
  offered = offers-keep c.args.self.now.offer.value c.args.self.now.connections.connections.slots c.next_ready-next.new.self.connections.slots c.next_ready-next.ensures c.args.self.now.offered;
}

pub invariant_of-self-else-is_ready : goal.invariant_of-self-else-is_ready
invariant_of-self-else-is_ready g c = record {
  offered = offers-same c.args.self.now.offer.value c.args.self.now.connections.connections.slots c.next_dear-next.new.self.connections.slots c.next_dear-next.ensures c.args.self.now.offered;
}

pub returns-in_default-clause-turns : goal.returns-in_default-clause-turns
returns-in_default-clause-turns g c = by_no_turn (known_to c.args.answering.now.keys)
