use Rattle.mac_gate.proofs.GoingLemmas.{offers-same, offers-stay}
use Rattle.mac_gate.proofs.looping.HttpLoop.settle.Goals as goal

pub invariant_of-self : goal.invariant_of-self
invariant_of-self g c = record {
  offered = offers-same c.args.self.now.offer.value c.args.self.now.connections.connections.slots c.settle.new.self.connections.slots c.settle.ensures c.args.self.now.offered;
}

pub invariant_of-self-in-loop : goal.invariant_of-self-in-loop
invariant_of-self-in-loop g c = record {
  offered = offers-stay c.loop.self.offer.value c.loop.self.connections.connections.slots c.drop_heaviest.new.self.connections.slots c.drop_heaviest.ensures c.loop.self.offered;
}
