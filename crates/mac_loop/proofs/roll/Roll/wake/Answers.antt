use Rattle.std.proofs.Common.{arith}
use Rattle.mac_loop.proofs.BacklogLemmas.{still}
use Rattle.mac_loop.proofs.roll.Roll.wake.Goals as goal

pub invariant_of-self : goal.invariant_of-self
invariant_of-self g c = record {
  accounted = grind (arith, c.wake.ensures.count, c.args.self.now.accounted);
  summed = still _ _ _ c.args.self.now.summed c.wake.ensures.weight;
}
