use Rattle.mac_board.proofs.Watching.{taken-rested}
use Rattle.mac_board.proofs.laws.what_is_taken_has_rested.Goals as goal

pub returns : goal.returns
returns c = taken-rested
