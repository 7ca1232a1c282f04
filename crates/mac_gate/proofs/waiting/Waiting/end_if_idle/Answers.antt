use Rattle.mac_slots.specs.Slots.{with_held}
use Rattle.mac_gate.proofs.GoingLemmas.{keep-changed, keep-then}
use Rattle.mac_gate.proofs.waiting.Waiting.end_if_idle.Goals as goal

pub returns : goal.returns
returns c =
    let slots = c.args.self.now.connections.slots in
    let one = c.end_if_idle.new.self in
    keep-then slots (with_held slots c.args.slot one) c.list.new.self.connections.slots
    (keep-changed slots c.args.slot c.in-Some.one.now one c.in-Some.ensures.value c.end_if_idle.ensures) c.list.ensures
