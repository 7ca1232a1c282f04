-- A signature is refused with its bytes, and where they are not 32.
use Rattle.std.proofs.Common.{ap, length, refl, sym, ◌∙◌}
use Rattle.std.proofs.lemmas.Result.{err_from_is_err_and}
use Rattle.mac_token.proofs.JsonRead.{same_member_bytes}
use Rattle.mac_token.proofs.Refusals.{Refuses-whole}
use Rattle.mac_token.proofs.v2_json.reading.signature_member.Goals as goal

pub returns-in_err-bytes : goal.returns-in_err-bytes
returns-in_err-bytes c =
    let p = err_from_is_err_and c.from_residual.result c.from_residual.ensures.1 in
    rw (p.1, p.2) (Refuses-whole _ _ (λ sig h. (sig, h.0)) _ c.in_err-bytes.ensures)

pub returns : goal.returns
returns c = (
  refl,
  λ sig h.
      let same = same_member_bytes _ _ sig c.in_ok-bytes.bytes.items h.0 c.in_ok-bytes.ensures in
      c.in-None.ensures.none (ap length (c.as_slice.ensures.value ∙ sym same) ∙ h.1),
)
