use Rattle.mac_board.proofs.Judging.{taken-list-rested}
use Rattle.mac_board.proofs.laws.taken_list_has_rested.Goals as goal

pub returns : goal.returns
returns c = taken-list-rested
