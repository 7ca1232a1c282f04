-- The slot is written, and its mark stays.
use Rattle.std.proofs.Common.{sym, Some}
use Rattle.mac_slots.proofs.Views.{becomes-set}
use Rattle.mac_slots.proofs.slots.Slots.put.Goals as goal

pub returns-clause-held : goal.returns-clause-held
returns-clause-held g c =
    let inside = c.self.inside in
    let owned = c.in-Some.owned.now in
    rw (← c.self.view_is)
    (becomes-set inside.slots.slots c.args.slot owned (Some (record { connection = Some c.args.connection; is_listed = owned.is_listed })) inside.ready.items (sym c.in-Some.ensures.value))
