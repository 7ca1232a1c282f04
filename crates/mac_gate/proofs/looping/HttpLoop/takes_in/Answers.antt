use Rattle.std.proofs.Common.{◌∙◌}
use Rattle.mac_gate.specs.Going.{past_of}
use Rattle.mac_gate.proofs.GoingLemmas.{offers-in}
use Rattle.mac_gate.proofs.looping.HttpLoop.takes_in.Goals as goal

pub invariant_of-self : goal.invariant_of-self
invariant_of-self g c = record {
  offered = offers-in c.args.self.now.offer.value (past_of c.new-one.result) c.args.self.now.connections.connections.slots c.begin.new.self.connections.slots (c.new-one.ensures ∙ c.in-Ok.ensures) c.begin.ensures c.args.self.now.offered;
}
