use Rattle.mac_http.proofs.ListLemmas.{five_lists}
use Rattle.mac_http.proofs.facts.forwarded.put_forwarded.Goals as goal

pub returns : goal.returns
returns c =
    five_lists _ _ _ _ _ _ _ _ _ _ _ c.in_ok-put_method.ensures c.in_ok-put_host.ensures c.in_ok-put_address.ensures c.in_ok-put_scheme.ensures c.in_ok-put_path.ensures
