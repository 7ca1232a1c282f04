use Rattle.mac_log.proofs.QuotaLemmas.{none_lost}
use Rattle.mac_log.proofs.laws.no_line_is_lost.Goals as goal

pub returns : goal.returns
returns c = none_lost
