use Rattle.mac_gate.proofs.GoingLemmas.{offers-same, offers-stay}
use Rattle.mac_gate.proofs.looping.HttpLoop.sweep.Goals as goal

pub invariant_of-self : goal.invariant_of-self
invariant_of-self g c = record {
  offered = offers-same c.args.self.now.offer.value c.args.self.now.connections.connections.slots c.begins_look.new.self.connections.slots c.begins_look.ensures c.args.self.now.offered;
}

pub invariant_of-self-in-loop-slot : goal.invariant_of-self-in-loop-slot
invariant_of-self-in-loop-slot g c = record {
  offered = offers-stay c.loop-slot.self.offer.value c.loop-slot.self.connections.connections.slots c.look.new.self.connections.slots c.look.ensures c.loop-slot.self.offered;
}
