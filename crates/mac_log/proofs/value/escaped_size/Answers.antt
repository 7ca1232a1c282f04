use Rattle.std.proofs.Common.{◌≡◌, false, sym, ◌∙◌}
use Rattle.mac_log.specs.Value.{is_shown}
use Rattle.mac_log.proofs.FieldLemmas.{hidden-size}
use Rattle.mac_log.proofs.value.escaped_size.Goals as goal

pub returns-else-is_shown : goal.returns-else-is_shown
returns-else-is_shown c =
    let hidden : is_shown c.args.byte ≡ false = sym c.is_shown.ensures ∙ c.if-is_shown.false in
    hidden-size c.args.byte hidden
