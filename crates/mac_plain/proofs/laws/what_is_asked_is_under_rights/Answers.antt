use Rattle.mac_plain.proofs.Living.{asked-under}
use Rattle.mac_plain.proofs.laws.what_is_asked_is_under_rights.Goals as goal

pub returns : goal.returns
returns g c = λ current before after job came went a l. asked-under current before after job came went a l
