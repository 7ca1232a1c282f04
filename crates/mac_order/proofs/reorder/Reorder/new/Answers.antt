-- Empty slots hold no answer.
use Rattle.std.proofs.Common.{refl}
use Rattle.mac_order.proofs.Waiting.{answers_in-replicate}
use Rattle.mac_order.proofs.reorder.Reorder.new.Goals as goal

pub returns : goal.returns
returns g c = rw (c.in_ok-with_capacity.ensures.items, c.in_ok-empty_slots.ensures, answers_in-replicate) refl
