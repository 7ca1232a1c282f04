use Rattle.mac_board.proofs.Taking.{in-order}
use Rattle.mac_board.proofs.laws.taken_tables_are_in_order.Goals as goal

pub returns : goal.returns
returns c = in-order
