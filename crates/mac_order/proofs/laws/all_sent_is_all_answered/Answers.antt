-- A beginning as long as the whole is the whole.
use Rattle.std.proofs.Common.{[], refl}
use Rattle.mac_order.proofs.Beginnings.{IsAnswered, answered-moved, whole}
use Rattle.mac_order.proofs.Kept.{reached-kept}
use Rattle.mac_order.proofs.laws.all_sent_is_all_answered.Goals as goal

pub returns : goal.returns
returns g c connections workers number events link known same =
    whole g.S.Service.reply_to link (reached-kept g.S.Service.reply_to (IsAnswered g.S.Service.reply_to) (answered-moved g.S.Service.reply_to) ([], refl) connections workers events number link known) same
