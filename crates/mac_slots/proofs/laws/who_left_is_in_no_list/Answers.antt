-- By induction over the list.
use Rattle.mac_slots.proofs.Counts.{times-without_same, times-without_other}
use Rattle.mac_slots.proofs.laws.who_left_is_in_no_list.Goals as goal

pub returns : goal.returns
returns c = record { left = times-without_same; others = times-without_other }
