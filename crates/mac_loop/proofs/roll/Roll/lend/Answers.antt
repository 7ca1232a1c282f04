use Rattle.std.proofs.Common.{arith, refl}
use Rattle.std.proofs.lemmas.Grind.{common_steps}
use Rattle.mac_slots.specs.Slots.{Lent}
use Rattle.mac_loop.specs.Roll.{unsent_held, unsent_of}
use Rattle.mac_loop.proofs.BacklogLemmas.{comes, goes}
use Rattle.mac_loop.proofs.RollLemmas.{comes-back, leaves-slot, one_each}
use Rattle.mac_loop.proofs.roll.Roll.lend.Goals as goal

pub invariant_of-self-in-Err : goal.invariant_of-self-in-Err
invariant_of-self-in-Err g c =
    let slots = c.args.self.now.connections.slots in
    let left = leaves-slot one_each slots c.take.new.self c.args.slot Lent _ _ refl c.in-Some.ensures.connection c.in-Some.ensures.lent in
    let back = comes-back one_each c.take.new.self c.put.new.self c.args.slot _ c.put.result c.put.ensures.lent c.put.ensures.held c.in-Some.ensures.lent.this in
    let less = leaves-slot unsent_of slots c.take.new.self c.args.slot Lent _ _ refl c.in-Some.ensures.connection c.in-Some.ensures.lent in
    let more = comes-back unsent_of c.take.new.self c.put.new.self c.args.slot _ c.put.result c.put.ensures.lent c.put.ensures.held c.in-Some.ensures.lent.this in
    let out = c.subtract.ensures (unsent_held c.take.new.self) (goes _ _ _ _ c.args.self.now.summed (omega (arith, less))) in
    record {
      accounted = omega (arith, left, back, c.args.self.now.accounted, c.in-Err.ensures.same);
      summed = comes _ _ _ _ (c.add.ensures (unsent_held c.take.new.self) out) (omega (arith, more));
    }

pub invariant_of-self-in_default-push : goal.invariant_of-self-in_default-push
invariant_of-self-in_default-push g c =
    let slots = c.args.self.now.connections.slots in
    let left = leaves-slot one_each slots c.take.new.self c.args.slot Lent _ _ refl c.in-Some.ensures.connection c.in-Some.ensures.lent in
    let less = leaves-slot unsent_of slots c.take.new.self c.args.slot Lent _ _ refl c.in-Some.ensures.connection c.in-Some.ensures.lent in
    record {
      accounted = grind (arith, common_steps, left, c.args.self.now.accounted, c.in_default-push.ensures.pushed);
      summed = c.subtract.ensures (unsent_held c.take.new.self) (goes _ _ _ _ c.args.self.now.summed (omega (arith, less)));
    }
