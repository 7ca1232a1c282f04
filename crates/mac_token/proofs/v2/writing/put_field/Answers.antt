use Rattle.std.proofs.Common.{List, ℕ, [], ◌∷◌, ◌++◌, length, ap, ◌∙◌}
use Rattle.mac_token.specs.Varint.{varint}
use Rattle.mac_token.proofs.V2Writing.{field_pushed, appended}
use Rattle.mac_token.proofs.v2.writing.put_field.Goals as goal

pub returns : goal.returns
returns c =
    let typed = c.in_ok-push.ensures.items ∙ ap (λ (n : ℕ). c.args.out.now.items ++ n ∷ []) c.number.ensures in
    let counted = c.in_ok-push_varint.ensures ∙ ap (λ (t : List ℕ). t ++ varint (length c.args.bytes.now)) typed in
    appended c.extend_from_slice.result c.extend_from_slice.new.self.items c.push_varint.new.out.items c.args.bytes.now _ c.extend_from_slice.ensures.items (ap (λ (t : List ℕ). t ++ c.args.bytes.now) counted ∙ field_pushed c.args.out.now.items c.args.kind c.args.bytes.now)
