use Rattle.mac_gate.proofs.GoingLemmas.{stay}
use Rattle.mac_gate.proofs.waiting.Waiting.drop_stalest.Goals as goal

pub returns-in_default : goal.returns-in_default
returns-in_default c = stay c.args.self.now.connections.slots

pub returns-else-has_rested : goal.returns-else-has_rested
returns-else-has_rested c = stay c.args.self.now.connections.slots
