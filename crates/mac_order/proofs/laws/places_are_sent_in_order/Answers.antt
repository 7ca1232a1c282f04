-- A fresh connection has sent nothing.
use Rattle.std.proofs.Common.{length, sym, ap, ◌∙◌, arith}
use Rattle.std.proofs.lemmas.Option.{same_Some}
use Rattle.std.specs.List.{range_with_len}
use Rattle.mac_order.specs.State.{Connection, fresh, opening}
use Rattle.mac_order.proofs.Kept.{reached-known}
use Rattle.mac_order.proofs.SentPlaces.{sends_counting}
use Rattle.mac_order.proofs.laws.places_are_sent_in_order.Goals as goal

pub returns : goal.returns
returns g c connections workers number events link known =
    let sends = sends_counting g.S.Service.reply_to (opening connections workers) events number fresh (reached-known g.S.Service.reply_to connections workers events number link known) in
    let same = same_Some _ _ (sym sends.known ∙ known) in
    sends.places ∙ ap (λ count. range_with_len 0 count) (omega (arith, sends.sent, ap (λ (here : Connection _ _). length here.sent) same))
