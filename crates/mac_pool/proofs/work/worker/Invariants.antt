use Rattle.mac_pool.specs.Working.{HasWorked}
use Rattle.mac_pool.proofs.work.worker.Given as goal

abbrev pub invariant-loop : goal.invariant-loop
invariant-loop g l = HasWorked l.fn.pass l.claimed l.pass l.deliveries
