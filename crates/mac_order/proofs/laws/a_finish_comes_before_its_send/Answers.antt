-- A fresh connection has no place that is finished.
use Rattle.std.specs.FinSet.{contains-empty}
use Rattle.std.specs.Ordering.{nat_cmp}
use Rattle.mac_order.specs.declared.event.Event.TheVariants.{Send}
use Rattle.mac_order.specs.declared.event.Outcome.TheVariants.{Sent}
use Rattle.mac_order.specs.State.{fresh, opening}
use Rattle.mac_order.proofs.Kept.{opening-known}
use Rattle.mac_order.proofs.Runs.{StandsAt}
use Rattle.mac_order.proofs.Origins.{sends_after, sends_known}
use Rattle.mac_order.proofs.laws.a_finish_comes_before_its_send.Goals as goal

pub returns : goal.returns
returns g c connections workers number place index events happens =
    let stands : StandsAt g.S.Service.reply_to (opening connections workers) events index (Send number) (Sent place) = record { event_is = happens.0; outcome_is = happens.1 } in
    let known = opening-known connections workers number (sends_known g.S.Service.reply_to (opening connections workers) events index number place stands) in
    let (earlier, before, at) = sends_after g.S.Service.reply_to (opening connections workers) events index number place fresh known (contains-empty nat_cmp place) stands in
    (earlier, at.worker, before, (at.stands.event_is, at.stands.outcome_is), at.task_is)
