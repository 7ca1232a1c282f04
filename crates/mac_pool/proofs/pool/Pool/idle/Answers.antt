use Rattle.std.proofs.Common.{◌≡◌, ◌<◌, List, Option, Some, slice_get, length, map, arith, ap, sym, ◌∙◌, subst}
use Rattle.std.proofs.lemmas.List.{length-map}
use Rattle.std.specs.Arc.{arc_value}
use Rattle.atomic_table.specs.Seated.{TableId}
use Rattle.mac_queue.specs.Line.{Line}
use Rattle.mac_queue.specs.Pass.{Pass, IsFresh}
use Rattle.mac_pool.proofs.Slots.{get_within, get_map, map_get}
use Rattle.mac_pool.proofs.pool.Pool.idle.Goals as goal

pub returns : goal.returns
returns g c =
    let row = c.in_ok-row.ensures in
    let queue : (arc_value c.in_ok-queue.queue).tickets ≡ c.in_ok-row.row.tickets = ap (λ (l : Line). l.tickets) c.in_ok-queue.ensures.ok in
    let slots : c.in_ok-passes.passes.items ≡ map Some c.in_ok-row.fresh.items = c.in_ok-passes.ensures in
    record {
      count = ap length c.in_ok-workers.ensures.items;
      slots_fit = ap length slots ∙ length-map c.in_ok-row.fresh.items Some ∙ row.count;
      out = λ number from below. absurd (omega arith);
      homes = λ number from below.
          let count = row.count in
          let here : number < length c.in_ok-row.fresh.items = omega arith in
          let found = get_within c.in_ok-row.fresh.items number here in (
            found.0,
            ap (λ (l : List (Option (Pass g.row.S-Job.Denot))). slice_get l number) slots ∙ map_get Some c.in_ok-row.fresh.items number found.0 found.1,
            subst (λ (z : TableId). IsFresh z number found.0) (sym queue) (row.fresh number found.0 found.1),
          );
    }

pub invariant_of-result : goal.invariant_of-result
invariant_of-result g c =
    let row = c.in_ok-row.ensures in
    let queue : (arc_value c.in_ok-queue.queue).tickets ≡ c.in_ok-row.row.tickets = ap (λ (l : Line). l.tickets) c.in_ok-queue.ensures.ok in
    let slots : c.in_ok-passes.passes.items ≡ map Some c.in_ok-row.fresh.items = c.in_ok-passes.ensures in
    let none = c.in_ok-workers.ensures.items in
    let threads = c.in_ok-workers.ensures.exact in
    let all = c.in_ok-all.ensures.exact in
    record {
      slots_fit = ap length slots ∙ length-map c.in_ok-row.fresh.items Some ∙ row.count;
      homes = λ number pass at.
          let found = get_map Some c.in_ok-row.fresh.items number (Some pass) (sym (ap (λ (l : List (Option (Pass g.row.S-Job.Denot))). slice_get l number) slots) ∙ at) in
          let same : found.0 ≡ pass = cc (found.2) in
          let fresh = row.fresh number pass (found.1 ∙ ap Some same) in
          (fresh.queue_is ∙ sym queue, fresh.number_is);
      given_fit = rw none (omega arith);
      given_room = omega arith;
      given_are = rw none (λ number pass at. absurd (cc));
      all_empty = c.in_ok-all.ensures.items;
      all_fits = omega arith;
    }
