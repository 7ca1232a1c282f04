use Rattle.mac_gate.proofs.GoingLemmas.{keep-alike, keep-then}
use Rattle.mac_gate.proofs.waiting.Waiting.wait.Goals as goal

pub returns : goal.returns
returns g c =
    let old = c.args.self.now.connections.slots in
    let mid = c.wait.new.self.slots in
    keep-then old mid c.look_again.new.self.connections.slots (keep-alike old mid c.wait.ensures.alike) c.look_again.ensures
