-- The slot is written, and its mark stays.
use Rattle.std.proofs.Common.{sym, Some, None}
use Rattle.mac_slots.proofs.Views.{becomes-set, on_some}
use Rattle.mac_slots.proofs.slots.Slots.take.Goals as goal

pub returns-clause-lent : goal.returns-clause-lent
returns-clause-lent g c =
    let inside = c.self.inside in
    let owned = c.in_ok-get_mut.field-0.now in
    rw (c.take.ensures.after, ← c.self.view_is)
    (on_some c.take.result
    (becomes-set inside.slots.slots c.args.slot owned (Some (record { connection = None; is_listed = owned.is_listed })) inside.ready.items (sym c.in_ok-get_mut.ensures.value)))
