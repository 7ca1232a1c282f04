use Rattle.std.proofs.Common.{arith, refl}
use Rattle.mac_loop.specs.Roll.{unsent_held, unsent_of}
use Rattle.mac_loop.proofs.BacklogLemmas.{comes}
use Rattle.mac_loop.proofs.RollLemmas.{comes-into-slot, one_each}
use Rattle.mac_loop.proofs.roll.Roll.take_back.Goals as goal

pub invariant_of-self-in-Ok : goal.invariant_of-self-in-Ok
invariant_of-self-in-Ok g c =
    let slots = c.args.self.now.connections.slots in
    let put = c.in-Ok.ensures in
    let back = comes-into-slot one_each slots c.put.new.self c.in_ok-slot.slot _ _ (put.lent.0 refl) put.held in
    let more = comes-into-slot unsent_of slots c.put.new.self c.in_ok-slot.slot _ _ (put.lent.0 refl) put.held in
    record {
      accounted = grind (arith, back, c.in_ok-slot.ensures.one, c.args.self.now.accounted);
      summed = comes _ _ _ _ (c.add.ensures (unsent_held slots) c.args.self.now.summed) (omega (arith, more));
    }
