use Rattle.std.proofs.Common.{◌≡◌, ℕ, List, [], ◌∷◌, ◌++◌, append_assoc, sym, ap, subst, ◌∙◌}
use Rattle.std.specs.Prelude.{OnOk}
use Rattle.mac_token.specs.V2.{field}
use Rattle.mac_token.specs.declared.v2.FieldType.TheVariants.{Signature}
use Rattle.mac_token.proofs.V2Fields.{end_is}
use Rattle.mac_token.proofs.v2.writing.put_signature.Goals as goal

pub returns : goal.returns
returns c =
    let out = c.args.out.now.items in
    let last = field Signature c.args.sig.now in
    let ended = ap (λ (bytes : List ℕ). bytes ++ last) c.in_ok-push.ensures.items
    ∙ append_assoc out (0 ∷ []) last ∙ ap (λ (mark : List ℕ). out ++ (mark ++ last)) (sym end_is) in
    subst (λ (bytes : List ℕ). OnOk c.put_field.result (c.put_field.new.out.items ≡ bytes)) ended c.put_field.ensures
