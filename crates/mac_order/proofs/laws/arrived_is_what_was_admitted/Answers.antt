-- A fresh connection has no jobs.
use Rattle.std.proofs.Common.{ap, sym, ◌∙◌}
use Rattle.std.proofs.lemmas.Option.{same_Some}
use Rattle.std.specs.List.{enumerate_from}
use Rattle.mac_order.specs.State.{Connection, fresh, opening}
use Rattle.mac_order.proofs.Kept.{reached-known}
use Rattle.mac_order.proofs.Admissions.{grows-ran}
use Rattle.mac_order.proofs.laws.arrived_is_what_was_admitted.Goals as goal

pub returns : goal.returns
returns g c connections workers number events link known =
    let grown = grows-ran g.S.Service.reply_to (opening connections workers) number fresh (reached-known g.S.Service.reply_to connections workers events number link known) events in
    let same = same_Some _ _ (sym grown.there ∙ known) in
    grown.told_is ∙ ap (enumerate_from 0) (sym grown.arrived ∙ ap (λ (here : Connection _ _). here.arrived) same)
