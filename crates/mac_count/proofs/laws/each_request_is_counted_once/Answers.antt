use Rattle.mac_count.proofs.CountLemmas.{all_counted}
use Rattle.mac_count.proofs.laws.each_request_is_counted_once.Goals as goal

pub returns : goal.returns
returns c = all_counted
