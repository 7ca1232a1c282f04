use Rattle.std.proofs.Common.{◌≡◌, rules, ap, sym, ◌∙◌}
use Rattle.mac_pool.proofs.Slots.{set_homes}
use Rattle.mac_pool.proofs.pool.Pool.take_home.Goals as goal

pub invariant_of-self : goal.invariant_of-self
invariant_of-self g c =
    let was = c.self.invariant in
    let number : c.number-number.result ≡ c.args.pass.number = c.number-number.ensures.number in
    let fit = was.slots_fit in
    let below = c.number-number.ensures.below in
    record {
      slots_fit = search rules;
      homes = set_homes _ c.self.inside.passes.items c.number-number.result c.args.pass (c.requires ∙ sym (ap (λ z. z.queue) c.self.view_is)) (sym number) was.homes;
      given_fit = was.given_fit;
      given_room = was.given_room;
      given_are = was.given_are;
      all_empty = was.all_empty;
      all_fits = was.all_fits;
    }
