use Rattle.std.proofs.Common.{ap, subst, sym}
use Rattle.mac_slots.specs.Slots.{Slots}
use Rattle.mac_gate.specs.Going.{KeepTheirs}
use Rattle.mac_gate.specs.declared.connection.HttpConnection.{HttpConnection}
use Rattle.mac_gate.specs.declared.waiting.Waiting.{Waiting}
use Rattle.mac_gate.proofs.GoingLemmas.{keep-ready}
use Rattle.mac_gate.proofs.waiting.Waiting.next_ready.Goals.{else-is_dear-via-then-is_dear+else-is_ok, else-is_dear-via-else-is_dear}
use Rattle.mac_gate.proofs.waiting.Waiting.next_ready.Goals as goal

pub returns : goal.returns
returns c =
    let slots = c.args.self.now.connections.slots in
    let next = c.next_ready.new.self in
    let kept : KeepTheirs slots next = keep-ready slots next _ c.next_ready.ensures.rest in
    elim c.else-is_dear.branch [
      | else-is_dear-via-then-is_dear+else-is_ok w ↦ subst (λ (s : Slots HttpConnection). KeepTheirs slots s) (sym (ap (λ (o : Waiting). o.connections.slots) w.self-is)) kept
      | else-is_dear-via-else-is_dear w ↦ subst (λ (s : Slots HttpConnection). KeepTheirs slots s) (sym (ap (λ (o : Waiting). o.connections.slots) w.self-is)) kept
    ]
