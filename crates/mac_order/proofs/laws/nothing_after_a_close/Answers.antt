-- Each step keeps it.
use Rattle.std.proofs.Common.{refl}
use Rattle.mac_order.specs.Step.{on_connection, after_close}
use Rattle.mac_order.proofs.Beginnings.{IsClosedWith, closed-moved, closed-by_close}
use Rattle.mac_order.proofs.Kept.{kept}
use Rattle.mac_order.proofs.laws.nothing_after_a_close.Goals as goal

pub returns-clause-closed : goal.returns-clause-closed
returns-clause-closed g c state number events link known shut =
    let (after, there, is) = kept g.S.Service.reply_to (IsClosedWith g.S.Service.reply_to link.arrived link.sent) (closed-moved g.S.Service.reply_to link.arrived link.sent) state events number link known (shut, refl, refl) in
    (after, there, is.1, is.2)

pub returns-clause-close : goal.returns-clause-close
returns-clause-close g c state number events link known =
    let (now, at, shut) = closed-by_close g.S.Service.reply_to state number link known in
    let (after, there, is) = kept g.S.Service.reply_to (IsClosedWith g.S.Service.reply_to link.arrived link.sent) (closed-moved g.S.Service.reply_to link.arrived link.sent) (on_connection state number after_close).0 events number now at shut in
    (after, there, is.1, is.2)
