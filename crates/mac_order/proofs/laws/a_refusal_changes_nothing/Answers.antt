-- By cases of the event.
use Rattle.mac_order.proofs.Refusals.{step-refused}
use Rattle.mac_order.proofs.laws.a_refusal_changes_nothing.Goals as goal

pub returns : goal.returns
returns g c state happening refused = step-refused g.S.Service.reply_to state happening refused
