use Rattle.std.proofs.Common.{refl}
use Rattle.mac_http.proofs.FieldLemmas.{field_is}
use Rattle.mac_http.proofs.ListLemmas.{two_put}
use Rattle.mac_http.proofs.saying.put_whose.Goals as goal

pub returns-clause-fields : goal.returns-clause-fields
returns-clause-fields c =
    two_put _ _ _ _ _ _ _ (field_is _ _ _ _ _ c.from_static.ensures c.in_ok-owner.ensures refl)
    (field_is _ _ _ _ _ c.from_static-2.ensures c.in_ok-place.ensures refl)
    c.in_ok-add_header.ensures.headers c.in_ok-add_header-2.ensures.headers
