use Rattle.std.proofs.Common.{ap, subst, sym}
use Rattle.mac_slots.specs.Slots.{Slots}
use Rattle.mac_gate.specs.Going.{KeepTheirs}
use Rattle.mac_gate.specs.declared.connection.HttpConnection.{HttpConnection}
use Rattle.mac_gate.specs.declared.waiting.Waiting.{Waiting}
use Rattle.mac_gate.proofs.GoingLemmas.{keep, keep-alike, keep-then, stay, stay-keep}
use Rattle.mac_gate.proofs.waiting.Waiting.look.Goals.{then-is_owed, else-is_owed}
use Rattle.mac_gate.proofs.waiting.Waiting.look.Goals as goal

pub returns-in_default : goal.returns-in_default
returns-in_default c = stay c.args.self.now.connections.slots

pub returns : goal.returns
returns c =
    let slots = c.args.self.now.connections.slots in
    let mid = c.if-is_owed.self.connections.slots in
    let new = c.stay.new.self.connections.slots in
    let kept : KeepTheirs slots mid = elim c.if-is_owed.branch [
      | then-is_owed w ↦ subst (λ (s : Slots HttpConnection). KeepTheirs slots s) (sym (ap (λ (o : Waiting). o.connections.slots) w.self-is)) (keep-alike slots w.wake.new.self.slots w.wake.ensures.alike)
      | else-is_owed w ↦ keep slots mid (ap (λ (o : Waiting). o.connections.slots) w.self-is)
    ] in
    stay-keep slots new (keep-then slots mid new kept c.stay.ensures)
