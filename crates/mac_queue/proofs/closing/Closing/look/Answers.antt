use Rattle.std.proofs.Common.{rules, refl}
use Rattle.mac_queue.proofs.closing.Closing.look.Goals as goal

pub load_new_seat-number-requires : goal.load_new_seat-number-requires
load_new_seat-number-requires c = (search rules, λ _ _ _ _. (_, tt, refl))
