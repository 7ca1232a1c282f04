use Rattle.mac_loop.proofs.BacklogLemmas.{added}
use Rattle.mac_loop.specs.Backlog.{rounded}
use Rattle.mac_loop.proofs.backlog.Backlog.add.Goals as goal

pub returns : goal.returns
unfolding rounded
returns c = λ all is. added _ _ all _ is
