use Rattle.std.proofs.Common.{◌<◌, length, arith}
use Rattle.crossbeam_queue.specs.Passes.{view}
use Rattle.mac_queue.specs.declared.queue.TheConstants.{PUTS_MAX}
use Rattle.mac_queue.proofs.Balance.{puts}
use Rattle.mac_queue.proofs.queue.Queue.put.Goals as goal

pub push_as-requires-clause-rule : goal.push_as-requires-clause-rule
push_as-requires-clause-rule g c =
    let room : length (view c.pass.inside.seat).put < PUTS_MAX = omega arith in
    (puts _ _ _ _ c.pass.invariant.1 room, λ _ _ _ _. tt)
