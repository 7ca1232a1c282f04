-- The slots that are not free are those that are somebody's.
use Rattle.std.proofs.Common.{◌∙◌, sym}
use Rattle.mac_slots.proofs.Views.{count_taken}
use Rattle.mac_slots.proofs.slots.Slots.count.Goals as goal

pub returns : goal.returns
returns g c = rw (← c.self.view_is) (c.len.ensures ∙ sym (count_taken c.self.inside.slots.slots))
