-- No more jobs wait in the ring than it has slips.
use Rattle.std.proofs.Common.{◌∙◌, ap, arith, length, length-append}
use Rattle.rtrb.specs.Ring.{received, known_items}
use Rattle.mac_order.proofs.Meetings.{meets}
use Rattle.mac_order.proofs.totals.meet.Goals as goal

pub returns-clause-state : goal.returns-clause-state
returns-clause-state g c =
    let first = c.slots_beside.ensures in
    let second = c.slots_beside-2.ensures in
    let jobs = ap length (second.looked.1 ∙ first.consumer.1) in
    let pushed = ap length second.producer.1 in
    let between = ap length second.looked.1 in
    let slips = first.looked.0.1 ∙ c.intake.invariant.1 in
    let all = ap length second.fifo in
    let kept = c.outlet.invariant in
    meets g.S.Service.reply_to c.lists_within_the_window_are_reached.ensures _ _ _ c.outlet.inside.buffer.next second.fifo
    (omega (arith, jobs, kept.sent))
    (omega (arith, jobs, kept.window))
    (omega (arith, slips, pushed, between, first.all_free, length-append (received c.slots_beside-2.new.self) (known_items c.slots_beside-2.new.self), all))
