use Rattle.std.proofs.Common.{◌∙◌}
use Rattle.mac_slots.specs.Slots.{with_held}
use Rattle.mac_gate.proofs.GoingLemmas.{keep, keep-changed, keep-then}
use Rattle.mac_gate.proofs.waiting.Waiting.stay.Goals as goal

pub returns : goal.returns
returns c =
    let slots = c.args.self.now.connections.slots in
    let one = c.put_off-due_in.new.self in
    let held = with_held slots c.args.slot one in
    let mid = c.look_within.new.self.connections.slots in
    keep-then slots held c.list.new.self.connections.slots
    (keep-changed slots c.args.slot c.in-Some.one.now one c.in-Some.ensures.value c.put_off-due_in.ensures)
    (keep-then held mid c.list.new.self.connections.slots (keep held mid (c.look_within.ensures ∙ c.expect_within.ensures)) c.list.ensures)
