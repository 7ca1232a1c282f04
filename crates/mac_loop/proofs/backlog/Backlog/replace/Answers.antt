use Rattle.std.proofs.Common.{arith}
use Rattle.mac_loop.proofs.BacklogLemmas.{between}
use Rattle.mac_loop.specs.Backlog.{rounded}
use Rattle.mac_loop.proofs.backlog.Backlog.replace.Goals as goal

pub returns-clause-more : goal.returns-clause-more
unfolding rounded
returns-clause-more c = between _ _ _ (omega arith) (omega arith)
