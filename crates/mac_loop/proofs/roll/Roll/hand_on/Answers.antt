use Rattle.std.proofs.Common.{ap, arith, length, length-append, refl, sym, ◌∙◌, ◌∷◌, []}
use Rattle.std.proofs.lemmas.Grind.{common_steps}
use Rattle.mac_slots.specs.Slots.{Lent}
use Rattle.mac_loop.specs.Roll.{unsent_held, unsent_of}
use Rattle.mac_loop.proofs.BacklogLemmas.{goes, still}
use Rattle.mac_loop.proofs.RollLemmas.{comes-back, frees-slot, leaves-slot, no-newcomer, one_each}
use Rattle.mac_loop.proofs.roll.Roll.hand_on.Goals as goal

pub invariant_of-self-then-not-may_move : goal.invariant_of-self-then-not-may_move
invariant_of-self-then-not-may_move g c =
    let slots = c.args.self.now.connections.slots in
    let left = leaves-slot one_each slots c.take.new.self c.args.slot Lent _ _ refl c.in-Some.ensures.connection c.in-Some.ensures.lent in
    let back = comes-back one_each c.take.new.self c.put.new.self c.args.slot _ c.put.result c.put.ensures.lent c.put.ensures.held c.in-Some.ensures.lent.this in
    let less = leaves-slot unsent_of slots c.take.new.self c.args.slot Lent _ _ refl c.in-Some.ensures.connection c.in-Some.ensures.lent in
    let more = comes-back unsent_of c.take.new.self c.put.new.self c.args.slot _ c.put.result c.put.ensures.lent c.put.ensures.held c.in-Some.ensures.lent.this in
    record {
      accounted = omega (arith, left, back, c.args.self.now.accounted);
      summed = still _ _ _ c.args.self.now.summed (omega (arith, less, more));
    }

pub invariant_of-self-in-Err : goal.invariant_of-self-in-Err
invariant_of-self-in-Err g c =
    let slots = c.args.self.now.connections.slots in
    let left = leaves-slot one_each slots c.take.new.self c.args.slot Lent _ _ refl c.in-Some.ensures.connection c.in-Some.ensures.lent in
    let freed = frees-slot one_each c.take.new.self c.release.new.self c.args.slot _ c.in-Some.ensures.lent.this c.release.ensures.free in
    let less = leaves-slot unsent_of slots c.take.new.self c.args.slot Lent _ _ refl c.in-Some.ensures.connection c.in-Some.ensures.lent in
    let same = frees-slot unsent_of c.take.new.self c.release.new.self c.args.slot _ c.in-Some.ensures.lent.this c.release.ensures.free in
    let none = no-newcomer c.args.self.now.newcomer (sym c.is_some.ensures ∙ c.if-is_some.false) in
    record {
      accounted = grind (arith, left, freed, none, c.args.self.now.accounted);
      summed = c.subtract.ensures (unsent_held c.release.new.self) (goes _ _ _ _ c.args.self.now.summed (omega (arith, less, same)));
    }

pub invariant_of-self-in-Ok : goal.invariant_of-self-in-Ok
invariant_of-self-in-Ok g c =
    let slots = c.args.self.now.connections.slots in
    let left = leaves-slot one_each slots c.take.new.self c.args.slot Lent _ _ refl c.in-Some.ensures.connection c.in-Some.ensures.lent in
    let freed = frees-slot one_each c.take.new.self c.release.new.self c.args.slot _ c.in-Some.ensures.lent.this c.release.ensures.free in
    let less = leaves-slot unsent_of slots c.take.new.self c.args.slot Lent _ _ refl c.in-Some.ensures.connection c.in-Some.ensures.lent in
    let same = frees-slot unsent_of c.take.new.self c.release.new.self c.args.slot _ c.in-Some.ensures.lent.this c.release.ensures.free in
    record {
      accounted = grind (arith, common_steps, left, freed, c.args.self.now.accounted, ap length c.add.ensures, length-append c.args.self.now.handed (c.badge.result.now ∷ []));
      summed = c.subtract.ensures (unsent_held c.release.new.self) (goes _ _ _ _ c.args.self.now.summed (omega (arith, less, same)));
    }
