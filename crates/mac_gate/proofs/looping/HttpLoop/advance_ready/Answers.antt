use Rattle.std.proofs.Common.{rules}
use Rattle.mac_gate.specs.Answered.{known_to}
use Rattle.mac_gate.proofs.AnsweredLemmas.{by_no_turn, by_turns_then}
use Rattle.mac_gate.proofs.GoingLemmas.{offers-keep, offers-same}
use Rattle.mac_gate.proofs.looping.HttpLoop.advance_ready.Goals as goal

pub invariant_of-self : goal.invariant_of-self
invariant_of-self g c = record {
  offered = offers-keep c.args.self.now.offer.value c.args.self.now.connections.connections.slots c.end_idle.new.self.connections.slots c.end_idle.ensures c.args.self.now.offered;
}

pub loop-turn-init : goal.loop-turn-init
loop-turn-init g c = record { offer = search rules; turns = by_no_turn (known_to c.args.answering.now.keys) }

pub invariant_of-self-in-loop-turn : goal.invariant_of-self-in-loop-turn
invariant_of-self-in-loop-turn g c = record {
  offered = offers-same c.loop-turn.self.offer.value c.loop-turn.self.connections.connections.slots c.has_room.new.self.connections.slots c.has_room.ensures c.loop-turn.self.offered;
}

pub loop-turn-preserved : goal.loop-turn-preserved
loop-turn-preserved g c = record {
  offer = search rules;
  turns = by_turns_then (known_to c.args.answering.now.keys) (known_to c.loop-turn.answering.keys) (known_to c.advance_next.new.answering.keys) c.loop-turn.invariant.turns c.advance_next.ensures.turns;
}

pub returns-else-not-has_room-clause-turns : goal.returns-else-not-has_room-clause-turns
returns-else-not-has_room-clause-turns g c =
    by_turns_then (known_to c.args.answering.now.keys) (known_to c.loop-turn.answering.keys) (known_to c.advance_next.new.answering.keys) c.loop-turn.invariant.turns c.advance_next.ensures.turns
