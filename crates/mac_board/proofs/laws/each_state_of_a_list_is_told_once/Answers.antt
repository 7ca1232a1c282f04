use Rattle.mac_board.proofs.Judging.{list-told-once}
use Rattle.mac_board.proofs.laws.each_state_of_a_list_is_told_once.Goals as goal

pub returns : goal.returns
returns c = list-told-once
