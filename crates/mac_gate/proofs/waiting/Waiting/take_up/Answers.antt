use Rattle.mac_slots.specs.Slots.{with_held}
use Rattle.mac_gate.proofs.GoingLemmas.{keep-alike, keep-changed, keep-then}
use Rattle.mac_gate.proofs.waiting.Waiting.take_up.Goals as goal

pub returns : goal.returns
returns c =
    let slots = c.args.self.now.connections.slots in
    let one = c.take_up.new.self in
    let held = with_held slots c.args.slot one in
    keep-then slots held c.wake.new.self.slots
    (keep-changed slots c.args.slot c.in-Some.one.now one c.in-Some.ensures.value c.take_up.ensures) (keep-alike held c.wake.new.self.slots c.wake.ensures.alike)
