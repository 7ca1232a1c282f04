use Rattle.mac_board.proofs.Taking.{goes-on}
use Rattle.mac_board.proofs.laws.order_goes_on_elsewhere.Goals as goal

pub returns : goal.returns
returns c = goes-on
