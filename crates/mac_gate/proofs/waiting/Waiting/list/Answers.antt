use Rattle.std.proofs.Common.{subst, sym}
use Rattle.mac_slots.specs.Slots.{Slots}
use Rattle.mac_gate.specs.Going.{KeepTheirs}
use Rattle.mac_gate.specs.declared.connection.HttpConnection.{HttpConnection}
use Rattle.mac_gate.proofs.GoingLemmas.{keep-listed}
use Rattle.mac_gate.proofs.waiting.Waiting.list.Goals as goal

pub returns : goal.returns
returns c =
    let slots = c.args.self.now.connections.slots in
    subst (λ (s : Slots HttpConnection). KeepTheirs slots s) (sym c.list.ensures) (keep-listed slots c.args.slot)
