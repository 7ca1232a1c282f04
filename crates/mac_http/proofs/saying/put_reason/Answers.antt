use Rattle.std.proofs.Common.{ap}
use Rattle.std.specs.Prelude.{codes}
use Rattle.http_header.specs.FieldValue.{FieldValue}
use Rattle.mac_http.proofs.ListLemmas.{two_put}
use Rattle.mac_http.proofs.saying.put_reason.Goals as goal

pub returns-clause-fields : goal.returns-clause-fields
returns-clause-fields c =
    two_put _ _ _ _ _ _ _ (ap (λ n. (n, c.args.reason.bytes)) c.from_static.ensures) (ap (λ (v : FieldValue). (codes "content-type", v.bytes)) c.from_static-2.ensures)
    c.in_ok-add_header.ensures.headers c.in_ok-add_header-2.ensures.headers
