use Rattle.std.proofs.Common.{refl}
use Rattle.mac_gate.proofs.GoingLemmas.{keep, keep-then}
use Rattle.mac_gate.proofs.waiting.Waiting.look_again.Goals as goal

pub loop-init : goal.loop-init
loop-init c = keep c.args.self.now.connections.slots c.args.self.now.connections.slots refl

pub loop-preserved : goal.loop-preserved
loop-preserved c =
    let old = c.args.self.now.connections.slots in
    let mid = c.loop.self.connections.slots in
    let next = c.next_put_off.new.self.connections.slots in
    keep-then old mid c.take_up.new.self.connections.slots c.loop.invariant
    (keep-then mid next c.take_up.new.self.connections.slots (keep mid next c.next_put_off.ensures) c.take_up.ensures)

pub returns-in_default : goal.returns-in_default
returns-in_default c =
    let old = c.args.self.now.connections.slots in
    let mid = c.loop.self.connections.slots in
    let next = c.next_put_off.new.self.connections.slots in
    keep-then old mid next c.loop.invariant (keep mid next c.next_put_off.ensures)
