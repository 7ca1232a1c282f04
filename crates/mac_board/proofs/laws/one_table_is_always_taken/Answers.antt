use Rattle.mac_board.proofs.Taking.{one-taken}
use Rattle.mac_board.proofs.laws.one_table_is_always_taken.Goals as goal

pub returns : goal.returns
returns c = one-taken
