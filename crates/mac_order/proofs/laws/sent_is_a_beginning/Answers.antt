-- Each step keeps it.
use Rattle.std.proofs.Common.{[], refl}
use Rattle.mac_order.proofs.Beginnings.{IsAnswered, answered-moved}
use Rattle.mac_order.proofs.Kept.{reached-kept}
use Rattle.mac_order.proofs.laws.sent_is_a_beginning.Goals as goal

pub returns : goal.returns
returns g c connections workers number events link known =
    reached-kept g.S.Service.reply_to (IsAnswered g.S.Service.reply_to) (answered-moved g.S.Service.reply_to) ([], refl) connections workers events number link known
