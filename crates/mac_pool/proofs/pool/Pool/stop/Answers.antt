use Rattle.mac_pool.proofs.Moves.{stopped_is}
use Rattle.mac_pool.proofs.pool.Pool.stop.Goals as goal

pub returns-in-Ok-clause-tally : goal.returns-in-Ok-clause-tally
returns-in-Ok-clause-tally g c = stopped_is _ _ _ c.in-Ok.ensures.finished
