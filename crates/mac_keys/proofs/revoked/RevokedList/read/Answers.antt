use Rattle.std.proofs.Common.{sym, ◌∙◌}
use Rattle.mac_keys.proofs.RevokedCount.{lines-tell}
use Rattle.mac_keys.proofs.revoked.RevokedList.read.Goals as goal

pub invariant_of-result : goal.invariant_of-result
invariant_of-result c =
    let tell = lines-tell c.args.text.now _ c.in_ok-filtered.ensures.list in
    let held = c.in_ok-new.ensures.ok in (
      (λ none. held ∙ tell.0 (sym c.count_lines-lines.ensures ∙ none)),
      (λ is. c.count_lines-lines.ensures ∙ tell.1 (sym held ∙ is)),
    )
