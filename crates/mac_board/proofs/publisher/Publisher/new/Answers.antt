use Rattle.std.proofs.Common.{refl}
use Rattle.mac_board.proofs.Board.{kept-first}
use Rattle.mac_board.proofs.publisher.Publisher.new.Goals as goal

pub new-requires-3-clause-rule : goal.new-requires-3-clause-rule
new-requires-3-clause-rule g c = kept-first _ refl
