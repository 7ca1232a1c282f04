use Rattle.std.proofs.Common.{rules}
use Rattle.mac_gate.specs.Answered.{known_to}
use Rattle.mac_gate.proofs.AnsweredLemmas.{by_no_turn, by_turns_then}
use Rattle.mac_gate.proofs.GoingLemmas.{offers-keep}
use Rattle.mac_gate.proofs.looping.HttpLoop.run.Goals as goal

pub loop-init : goal.loop-init
loop-init g c = record { offer = search rules; turns = by_no_turn (known_to c.args.answering.now.keys) }

pub invariant_of-self : goal.invariant_of-self
invariant_of-self g c = record {
  offered = offers-keep c.loop.self.offer.value c.loop.self.connections.connections.slots c.wait.new.self.connections.slots c.wait.ensures c.loop.self.offered;
}

pub loop-preserved : goal.loop-preserved
loop-preserved g c = record {
  offer = search rules;
  turns = by_turns_then (known_to c.args.answering.now.keys) (known_to c.loop.answering.keys) (known_to c.advance_ready.new.answering.keys) c.loop.invariant.turns c.advance_ready.ensures.turns;
}

pub returns-then-is_over-clause-turns : goal.returns-then-is_over-clause-turns
returns-then-is_over-clause-turns g c =
    by_turns_then (known_to c.args.answering.now.keys) (known_to c.loop.answering.keys) (known_to c.advance_ready.new.answering.keys) c.loop.invariant.turns c.advance_ready.ensures.turns
