-- A caveat is refused where one of its members is.
use Rattle.std.proofs.lemmas.Result.{err_from_is_err_and}
use Rattle.mac_token.proofs.Refusals.{Refuses-whole}
use Rattle.mac_token.proofs.v2_json.reading.caveat_of.Goals as goal

pub returns-in_err-bytes_member : goal.returns-in_err-bytes_member
returns-in_err-bytes_member c =
    let p = err_from_is_err_and c.from_residual.result c.from_residual.ensures.1 in
    rw (p.1, p.2) (Refuses-whole _ _ (λ caveat h. (caveat.id, h.id)) _ c.in_err-bytes_member.ensures)

pub returns-in_err-optional_bytes_member : goal.returns-in_err-optional_bytes_member
returns-in_err-optional_bytes_member c =
    let p = err_from_is_err_and c.from_residual-in_err-optional_bytes_member.result c.from_residual-in_err-optional_bytes_member.ensures.1 in
    rw (p.1, p.2) (Refuses-whole _ _ (λ caveat h. (caveat.vid, h.vid)) _ c.in_err-optional_bytes_member.ensures)

pub returns-in_err-caveat_location_member : goal.returns-in_err-caveat_location_member
returns-in_err-caveat_location_member c =
    let p = err_from_is_err_and c.from_residual-in_err-caveat_location_member.result c.from_residual-in_err-caveat_location_member.ensures.1 in
    rw (p.1, p.2) (Refuses-whole _ _ (λ caveat h. (caveat.location, h.location)) _ c.in_err-caveat_location_member.ensures)
