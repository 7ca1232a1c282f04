use Rattle.mac_queue.proofs.Balance.{claims}
use Rattle.mac_queue.proofs.queue.Queue.claim.Goals as goal

pub pop_as-requires-clause-rule : goal.pop_as-requires-clause-rule
pop_as-requires-clause-rule g c = (claims _ _ c.pass.invariant.1, λ _ _ _ _. tt)
