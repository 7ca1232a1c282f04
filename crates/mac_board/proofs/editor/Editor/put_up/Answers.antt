use Rattle.std.proofs.Common.{◌≡◌, List, ap, ◌∙◌, Some, None}
use Rattle.std.specs.List.{last_or}
use Rattle.mac_keys.specs.KeyTable.{Table}
use Rattle.mac_board.specs.Publisher.{tables}
use Rattle.mac_board.proofs.Editing.{last-put}
use Rattle.mac_board.proofs.editor.Editor.put_up.Goals as goal

pub invariant_of-editor : goal.invariant_of-editor
invariant_of-editor g c = record {
  up =
      let shown = rw c.in-Ok.is at c.publish-publisher.ensures in
      let table : Table = record { keys = c.in-Ok-Ok.names; revoked = c.in-Ok-Ok.list } in
      let same : table ≡ record { keys = c.args.keys; revoked = c.args.revoked } = λ i. record { keys = c.in-Ok-Ok.ensures i; revoked = c.in-Ok-Ok.ensures' i } in
      ap (λ (l : List Table). last_or None l) shown ∙ last-put (tables c.args.self.publisher) table ∙ ap (λ (t : Table). Some t) same;
}
