use Rattle.mac_board.proofs.Watching.{told-once}
use Rattle.mac_board.proofs.laws.each_state_is_told_once.Goals as goal

pub returns : goal.returns
returns c = told-once
