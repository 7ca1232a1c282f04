use Rattle.std.proofs.Common.{refl}
use Rattle.mac_gate.proofs.GoingLemmas.{keep, keep-then}
use Rattle.mac_gate.proofs.waiting.Waiting.end_idle.Goals as goal

pub loop-slot-init : goal.loop-slot-init
loop-slot-init c = keep c.args.self.now.connections.slots c.args.self.now.connections.slots refl

pub loop-slot-preserved : goal.loop-slot-preserved
loop-slot-preserved c =
    keep-then c.args.self.now.connections.slots c.loop-slot.self.connections.slots c.end_if_idle.new.self.connections.slots c.loop-slot.invariant c.end_if_idle.ensures
