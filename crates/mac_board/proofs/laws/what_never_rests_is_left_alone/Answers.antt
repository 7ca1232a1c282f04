use Rattle.mac_board.proofs.Watching.{never-rests}
use Rattle.mac_board.proofs.laws.what_never_rests_is_left_alone.Goals as goal

pub returns : goal.returns
returns c = never-rests
