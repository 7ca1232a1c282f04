use Rattle.std.proofs.Common.{ap}
use Rattle.mac_token.specs.RawToken.{byte_lists}
use Rattle.mac_http.proofs.ListLemmas.{three_lists}
use Rattle.mac_http.proofs.facts.facts_of.Goals as goal

pub returns : goal.returns
returns c =
    three_lists _ _ _ _ _ _ _ (ap byte_lists c.new-facts.ensures.items) c.in_ok-put_header_where.ensures c.in_ok-put_query_where.ensures c.in_ok-put_forwarded_where.ensures
