use Rattle.std.proofs.Common.{◌∙◌, arith, ap, length, refl}
use Rattle.mac_slots.specs.Slots.{with_held}
use Rattle.mac_loop.specs.Roll.{unsent_of}
use Rattle.mac_loop.proofs.BacklogLemmas.{still}
use Rattle.mac_loop.proofs.RollLemmas.{listed-in-slot, one_each, stays-in-slot}
use Rattle.mac_loop.proofs.roll.Roll.end_reading.Goals as goal

pub invariant_of-self-2 : goal.invariant_of-self-2
invariant_of-self-2 g c =
    let slots = c.args.self.now.connections.slots in
    let put = with_held slots c.args.slot c.end_reading.new.self in
    let stays = stays-in-slot one_each slots c.args.slot c.in-Some.member.now c.end_reading.new.self c.in-Some.ensures.value refl in
    let listed = listed-in-slot one_each put c.args.slot in
    let same = stays-in-slot unsent_of slots c.args.slot c.in-Some.member.now c.end_reading.new.self c.in-Some.ensures.value (ap (λ session. length session.unsent) c.end_reading.ensures) in
    record {
      accounted = rw c.list.ensures (grind (arith, stays, listed, c.args.self.now.accounted));
      summed = rw c.list.ensures (still _ _ _ c.args.self.now.summed (listed-in-slot unsent_of put c.args.slot ∙ same));
    }
