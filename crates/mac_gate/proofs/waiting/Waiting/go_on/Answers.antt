use Rattle.std.proofs.Common.{ap, subst, sym}
use Rattle.mac_slots.specs.Slots.{Slots}
use Rattle.mac_gate.specs.Going.{KeepTheirs}
use Rattle.mac_gate.specs.declared.connection.HttpConnection.{HttpConnection}
use Rattle.mac_gate.specs.declared.waiting.Waiting.{Waiting}
use Rattle.mac_gate.proofs.GoingLemmas.{keep, keep-then}
use Rattle.mac_gate.proofs.waiting.Waiting.go_on.Goals.{then-is_ending, else-is_ending}
use Rattle.mac_gate.proofs.waiting.Waiting.go_on.Goals as goal

pub returns : goal.returns
returns c =
    let slots = c.args.self.now.connections.slots in
    let mid = c.if-is_ending.self.connections.slots in
    let kept : KeepTheirs slots mid = elim c.if-is_ending.branch [
      | then-is_ending w ↦ subst (λ (s : Slots HttpConnection). KeepTheirs slots s) (sym (ap (λ (o : Waiting). o.connections.slots) w.self-is)) w.end_if_idle.ensures
      | else-is_ending w ↦ keep slots mid (ap (λ (o : Waiting). o.connections.slots) w.self-is)
    ] in
    keep-then slots mid c.stay.new.self.connections.slots kept c.stay.ensures
