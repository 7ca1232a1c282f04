use Rattle.std.proofs.Common.{◌∙◌, refl, sym}
use Rattle.mac_slots.specs.Slots.{with_held, with_listed}
use Rattle.mac_sockets.proofs.Alike.{alike-then, alike-with_held, alike-with_listed}
use Rattle.mac_sockets.proofs.Weighed.{weighed-same, weighed-with_listed}
use Rattle.mac_sockets.proofs.connections.wake.Goals as goal

pub returns-then-wake : goal.returns-then-wake
returns-then-wake g c =
    let slots = c.args.slots.now in
    let woken = with_held slots c.args.slot c.wake.new.self in
    record {
      count = rw c.list.ensures
          (weighed-with_listed (λ one. 1) woken c.args.slot
          ∙ weighed-same (λ one. 1) slots c.args.slot c.in-Some.connection.now c.wake.new.self (sym c.in-Some.ensures.value) refl);
      weight = rw c.list.ensures
          (weighed-with_listed g.C.Wakes.weight woken c.args.slot
          ∙ weighed-same g.C.Wakes.weight slots c.args.slot c.in-Some.connection.now c.wake.new.self (sym c.in-Some.ensures.value) c.wake.ensures.weight);
      alike = rw c.list.ensures
          (alike-then g.C.Wakes.alike slots woken (with_listed woken c.args.slot)
          (alike-with_held g.C.Wakes.alike slots c.args.slot c.in-Some.connection.now c.wake.new.self (sym c.in-Some.ensures.value) c.wake.ensures.alike)
          (alike-with_listed g.C.Wakes.alike woken c.args.slot));
    }

pub returns-else-wake : goal.returns-else-wake
returns-else-wake g c =
    let slots = c.args.slots.now in
    record {
      count = weighed-same (λ one. 1) slots c.args.slot c.in-Some.connection.now c.wake.new.self (sym c.in-Some.ensures.value) refl;
      weight = weighed-same g.C.Wakes.weight slots c.args.slot c.in-Some.connection.now c.wake.new.self (sym c.in-Some.ensures.value) c.wake.ensures.weight;
      alike = alike-with_held g.C.Wakes.alike slots c.args.slot c.in-Some.connection.now c.wake.new.self (sym c.in-Some.ensures.value) c.wake.ensures.alike;
    }
