use Rattle.mac_gate.proofs.GoingLemmas.{offers-stay}
use Rattle.mac_gate.proofs.looping.HttpLoop.receive.Goals as goal

pub invariant_of-self : goal.invariant_of-self
invariant_of-self g c = record {
  offered = offers-stay c.args.self.now.offer.value c.args.self.now.connections.connections.slots c.drop_stalest.new.self.connections.slots c.drop_stalest.ensures c.args.self.now.offered;
}
