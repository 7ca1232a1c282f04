use Rattle.mac_board.proofs.Board.{sees}
use Rattle.mac_board.proofs.lookout.Lookout.enter.Goals as goal

pub enter_as-requires : goal.enter_as-requires
enter_as-requires c = sees _ _
