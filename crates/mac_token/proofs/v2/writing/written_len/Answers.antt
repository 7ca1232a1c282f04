use Rattle.std.proofs.Common.{ℕ, List, length, ap, ◌∙◌}
use Rattle.mac_token.specs.V2.{field, optional, written_location}
use Rattle.mac_token.specs.declared.v2.FieldType.TheVariants.{Location, Identifier, Signature}
use Rattle.mac_token.proofs.V2Writing.{caveat_sections, v2_len_sum}
use Rattle.mac_token.proofs.v2.writing.written_len.Goals as goal

pub returns : goal.returns
returns c =
    v2_len_sum c.args.token.now c.location_len-location.result c.field_len-identifier.result c.caveats_len-caveats.result c.field_len-signature.result
    (c.location_len-location.ensures.value ∙ ap (λ (l : List ℕ). length (optional Location (written_location l))) (c.as_bytes.ensures.value ∙ c.location.ensures))
    (c.field_len-identifier.ensures.value ∙ ap (λ (i : List ℕ). length (field Identifier i)) c.identifier.ensures)
    (c.caveats_len-caveats.ensures.value ∙ ap (λ (cs : List (List ℕ)). length (caveat_sections cs)) c.caveat_list.ensures.value)
    (c.field_len-signature.ensures.value ∙ ap (λ (s : List ℕ). length (field Signature s)) c.sig.ensures)
