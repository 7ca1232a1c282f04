use Rattle.std.proofs.Common.{arith, refl}
use Rattle.mac_slots.specs.Slots.{with_held}
use Rattle.mac_loop.specs.Roll.{unsent_held, unsent_of}
use Rattle.mac_loop.proofs.RollLemmas.{changes-in-slot, one_each, stays-in-slot}
use Rattle.mac_loop.proofs.roll.Roll.lose_answer.Goals as goal

pub invariant_of-self-2 : goal.invariant_of-self-2
invariant_of-self-2 g c =
    let slots = c.args.self.now.connections.slots in
    let put = with_held slots c.args.slot c.lose_answer.new.self in
    let stays = stays-in-slot one_each slots c.args.slot c.in-Some.member.now c.lose_answer.new.self c.in-Some.ensures.value refl in
    let changes = changes-in-slot unsent_of slots c.args.slot c.in-Some.member.now c.lose_answer.new.self c.in-Some.ensures.value in
    record {
      accounted = grind (arith, stays, c.args.self.now.accounted);
      summed = c.change.ensures (unsent_held slots) (unsent_held put) (omega (arith, changes)) c.args.self.now.summed;
    }
