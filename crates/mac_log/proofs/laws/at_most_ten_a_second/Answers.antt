use Rattle.mac_log.proofs.QuotaLemmas.{ten_at_most}
use Rattle.mac_log.proofs.laws.at_most_ten_a_second.Goals as goal

pub returns : goal.returns
returns c = ten_at_most
