-- The slot that is written holds the connection as it was left.
use Rattle.std.proofs.Common.{◌∙◌, sym}
use Rattle.std.specs.Option.{ghost_name_of}
use borrow.Follows.Closed.{read_of}
use Rattle.mac_slots.proofs.Views.{lends_view, held_view}
use Rattle.mac_slots.proofs.slots.Slots.get_mut.Goals as goal

pub returns-in-Some : goal.returns-in-Some
returns-in-Some g c =
    let inside = c.self.inside in
    let owned = c.in-Some.owned.now in
    let found = sym c.in-Some.ensures.value in
    rw (← c.self.view_is) (
      lends_view (read_of (ghost_name_of c.as_mut.result)) inside.slots.slots inside.ready.items c.args.slot owned found,
      record {
        value = c.as_mut.ensures.value ∙ sym (held_view inside.slots.slots c.args.slot owned found);
        changed = tt;
      },
    )
