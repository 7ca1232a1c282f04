use Rattle.mac_http.proofs.ListLemmas.{two_lists}
use Rattle.mac_http.proofs.facts.forwarded.put_method_told.Goals as goal

pub returns : goal.returns
returns c = two_lists _ _ _ _ _ c.in_ok-put.ensures (rw c.is_safe.ensures at c.in_ok-put_safe.ensures)
