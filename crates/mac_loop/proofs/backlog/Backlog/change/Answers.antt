use Rattle.mac_loop.proofs.BacklogLemmas.{goes}
use Rattle.mac_loop.proofs.backlog.Backlog.change.Goals as goal

pub returns : goal.returns
returns c = λ was is whole counts. c.subtract.ensures is (goes _ _ _ _ (c.add.ensures was counts) whole)
