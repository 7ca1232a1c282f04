-- Where one of the two members is there, its refusal is the whole's.
use Rattle.std.proofs.Common.{◌≡◌, ◌∙◌, Some, None}
use Rattle.std.proofs.lemmas.Result.{err_from_is_err_and}
use Rattle.serde_json.specs.Find.{get}
use Rattle.serde_json.specs.View.{view}
use Rattle.mac_token.proofs.JsonGiven.{member_bytes_given}
use Rattle.mac_token.proofs.Refusals.{Refuses-whole}
use Rattle.mac_token.proofs.v2_json.reading.optional_bytes_member.Goals as goal
use Rattle.mac_token.proofs.v2_json.reading.optional_bytes_member.Goals.{in_default-via-in-None+in_default, in_default-via-in_default}

pub returns-in_err-bytes_member-in_default : goal.returns-in_err-bytes_member-in_default
returns-in_err-bytes_member-in_default c =
    let text = get c.args.plain.now (view c.args.object.now) in
    let coded = get c.args.coded.now (view c.args.object.now) in
    let there : (text ≡ None) × (coded ≡ None) → ⊥ = λ h. elim c.in_default.branch [
      | in_default-via-in-None+in_default w ↦ let both : Some (view w.in_default.field-0-1.now) ≡ None = w.in_default.ensures' ∙ h.1 in cc
      | in_default-via-in_default w ↦ let both : Some (view w.in_default.field-0-0.now) ≡ None = w.in_default.ensures ∙ h.0 in cc
    ] in
    let p = err_from_is_err_and c.from_residual.result c.from_residual.ensures.1 in
    rw (p.1, p.2) (Refuses-whole _ _ (λ bytes h. member_bytes_given text coded bytes there h) _ c.in_err-bytes_member-in_default.ensures)
