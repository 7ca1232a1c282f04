use Rattle.std.proofs.Common.{◌≡◌, ◌<◌, List, Option, length, arith, ap, sym, ◌∙◌, get_or}
use Rattle.mac_queue.specs.Pass.{Pass}
use Rattle.mac_pool.proofs.Slots.{count_none, count_some}
use Rattle.mac_pool.proofs.passes.home_count.Goals as goal
use Rattle.mac_pool.proofs.passes.home_count.Goals.{in-Some, in-None}

pub loop-slot-preserved : goal.loop-slot-preserved
loop-slot-preserved g c =
    let slots = c.args.slots.now.items in
    let at = c.loop-slot.slot-index in
    let value : c.deref-slot-items.result.now ≡ slots = c.deref-slot-items.ensures.value in
    let test : at < length slots = omega (arith, c.loop-slot-test.true, ap length value) in
    let item = ap (λ (l : List (Option (Pass g.row.S-Job.Denot))). get_or l at c.slot-item.result) (sym value) ∙ sym c.slot-item.is in
    let was = c.loop-slot.invariant in
    elim c.match-slot.branch [
      | in-Some w ↦
          let n = w.count-is in
          let more = count_some slots at c.slot-item.result _ test (item ∙ w.in-Some.is) in
          (omega arith, omega arith)
      | in-None w ↦
          let n = w.count-is in
          let more = count_none slots at c.slot-item.result test (item ∙ w.in-None.is) in
          (omega arith, omega arith)
    ]
