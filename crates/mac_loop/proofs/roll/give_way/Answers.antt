use Rattle.std.proofs.Common.{◌∙◌, refl, arith, sym, None}
use Rattle.std.proofs.lemmas.Grind.{common_steps}
use Rattle.mac_slots.specs.Slots.{Free}
use Rattle.mac_loop.specs.Roll.{unsent_held, unsent_of}
use Rattle.mac_loop.proofs.BacklogLemmas.{goes, still}
use Rattle.mac_loop.proofs.RollLemmas.{leaves-slot, one_each}
use Rattle.mac_loop.proofs.roll.give_way.Goals as goal

pub returns-in_err-member : goal.returns-in_err-member
returns-in_err-member g c =
    let slots = c.args.slots.now in
    let told = sym c.in_err-member.was ∙ c.release.ensures.connection in
    let left = leaves-slot one_each slots c.release.new.self c.args.slot Free _ None refl told c.release.ensures.free in
    let less = leaves-slot unsent_of slots c.release.new.self c.args.slot Free _ None refl told c.release.ensures.free in
    record {
      gone = grind (arith, common_steps, left);
      unsent = λ is. still _ _ _ is (omega (arith, less));
    }

pub returns : goal.returns
returns g c =
    let slots = c.args.slots.now in
    let told = sym c.in_ok-member.was ∙ c.release.ensures.connection in
    let left = leaves-slot one_each slots c.release.new.self c.args.slot Free _ _ refl told c.release.ensures.free in
    let less = leaves-slot unsent_of slots c.release.new.self c.args.slot Free _ _ refl told c.release.ensures.free in
    record {
      gone = grind (arith, common_steps, left);
      unsent = λ is. c.subtract.ensures (unsent_held c.release.new.self) (goes _ _ _ _ is (omega (arith, less)));
    }
