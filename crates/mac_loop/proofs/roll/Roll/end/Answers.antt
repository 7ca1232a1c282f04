use Rattle.std.proofs.Common.{◌∙◌, arith, refl, sym, None}
use Rattle.std.proofs.lemmas.Grind.{common_steps}
use Rattle.mac_slots.specs.Slots.{Free}
use Rattle.mac_loop.specs.Roll.{unsent_held, unsent_of}
use Rattle.mac_loop.proofs.BacklogLemmas.{goes, still}
use Rattle.mac_loop.proofs.RollLemmas.{leaves-slot, one_each}
use Rattle.mac_loop.proofs.roll.Roll.end.Goals as goal

pub invariant_of-self : goal.invariant_of-self
invariant_of-self g c =
    let slots = c.args.self.now.connections.slots in
    let told = sym c.in-Some.is ∙ c.release.ensures.connection in
    let left = leaves-slot one_each slots c.release.new.self c.args.slot Free _ _ refl told c.release.ensures.free in
    let less = leaves-slot unsent_of slots c.release.new.self c.args.slot Free _ _ refl told c.release.ensures.free in
    record {
      accounted = grind (arith, common_steps, left, c.args.self.now.accounted, c.end.ensures);
      summed = c.subtract.ensures (unsent_held c.release.new.self) (goes _ _ _ _ c.args.self.now.summed (omega (arith, less)));
    }

pub invariant_of-self-in_default : goal.invariant_of-self-in_default
invariant_of-self-in_default g c =
    let slots = c.args.self.now.connections.slots in
    let told = sym c.in_default.is ∙ c.release.ensures.connection in
    let left = leaves-slot one_each slots c.release.new.self c.args.slot Free _ None refl told c.release.ensures.free in
    let less = leaves-slot unsent_of slots c.release.new.self c.args.slot Free _ None refl told c.release.ensures.free in
    record {
      accounted = grind (arith, common_steps, left, c.args.self.now.accounted);
      summed = still _ _ _ c.args.self.now.summed (omega (arith, less));
    }
