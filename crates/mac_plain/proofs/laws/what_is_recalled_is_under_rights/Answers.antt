use Rattle.mac_plain.proofs.Living.{recalled-under}
use Rattle.mac_plain.proofs.laws.what_is_recalled_is_under_rights.Goals as goal

pub returns : goal.returns
returns g c = λ current client. recalled-under current client
