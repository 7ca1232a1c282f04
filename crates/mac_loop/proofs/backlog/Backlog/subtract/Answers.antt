use Rattle.std.proofs.Common.{arith}
use Rattle.mac_loop.proofs.BacklogLemmas.{taken}
use Rattle.mac_loop.specs.Backlog.{rounded}
use Rattle.mac_loop.proofs.backlog.Backlog.subtract.Goals as goal

pub returns : goal.returns
unfolding rounded
returns c = λ rest is. taken _ _ rest _ (omega arith) is
