use Rattle.std.proofs.Common.{arith, ap, refl}
use Rattle.mac_loop.specs.Roll.{unsent_of}
use Rattle.mac_loop.specs.Unsent.{unsent_on}
use Rattle.mac_loop.proofs.BacklogLemmas.{still}
use Rattle.mac_loop.proofs.RollLemmas.{one_each, stays-in-slot}
use Rattle.mac_loop.proofs.roll.Roll.note_rest.Goals as goal

pub invariant_of-self-2 : goal.invariant_of-self-2
invariant_of-self-2 g c =
    let slots = c.args.self.now.connections.slots in
    let stays = stays-in-slot one_each slots c.args.slot c.in-Some.member.now c.note_rest.new.self c.in-Some.ensures.value refl in
    let same = stays-in-slot unsent_of slots c.args.slot c.in-Some.member.now c.note_rest.new.self c.in-Some.ensures.value (ap (λ client. unsent_on client) c.note_rest.ensures) in
    record {
      accounted = grind (arith, stays, c.args.self.now.accounted);
      summed = still _ _ _ c.args.self.now.summed same;
    }
