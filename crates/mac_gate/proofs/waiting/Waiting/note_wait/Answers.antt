use Rattle.mac_gate.proofs.GoingLemmas.{keep-changed}
use Rattle.mac_gate.proofs.waiting.Waiting.note_wait.Goals as goal

pub returns : goal.returns
returns c =
    keep-changed c.args.self.now.connections.slots c.args.slot c.in-Some.one.now c.begin_wait.new.self c.in-Some.ensures.value c.begin_wait.ensures
