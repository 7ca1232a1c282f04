use Rattle.std.proofs.Common.{arith}
use Rattle.mac_loop.specs.Roll.{unsent_batch, unsent_held}
use Rattle.mac_loop.proofs.BacklogLemmas.{comes}
use Rattle.mac_loop.proofs.roll.Roll.unsent.Goals as goal

pub returns : goal.returns
returns g c =
    let slots = c.args.self.now.connections.slots in
    let batch = c.args.self.now.batch in
    let both = c.plus-unsent.ensures (unsent_held slots) (unsent_batch batch) c.args.self.now.summed c.unsent.ensures in
    comes _ _ _ _ (c.add.ensures _ both) (omega arith)
