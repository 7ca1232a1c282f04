use Rattle.std.proofs.Common.{arith}
use Rattle.mac_loop.specs.Roll.{unsent_of}
use Rattle.mac_loop.proofs.BacklogLemmas.{still}
use Rattle.mac_loop.proofs.RollLemmas.{listed-in-slot, one_each}
use Rattle.mac_loop.proofs.roll.Roll.list.Goals as goal

pub invariant_of-self : goal.invariant_of-self
invariant_of-self g c =
    let slots = c.args.self.now.connections.slots in
    let listed = listed-in-slot one_each slots c.args.slot in
    record {
      accounted = rw c.list.ensures (grind (arith, listed, c.args.self.now.accounted));
      summed = rw c.list.ensures (still _ _ _ c.args.self.now.summed (listed-in-slot unsent_of slots c.args.slot));
    }
