use Rattle.std.proofs.Common.{ap, ◌∙◌}
use Rattle.mac_queue.specs.Pass.{Pass}
use Rattle.mac_pool.specs.Pool.{with_home}
use Rattle.mac_pool.proofs.Moves.{back_home}
use Rattle.mac_pool.proofs.pool.Pool.desk.Goals as goal

pub returns-in-Err-clause-same : goal.returns-in-Err-clause-same
returns-in-Err-clause-same g c =
    back_home _ _ _ c.in-Ok.pass c.in-Ok.ensures.given.0
    (c.take_home.ensures ∙ ap (λ (pass : Pass g.row.S-Job.Denot). with_home c.give.new.self pass) c.in-Err.ensures.back)
