use Rattle.std.proofs.Common.{◌∙◌, sym}
use Rattle.mac_keys.proofs.change.read_keys.Goals as goal

pub returns-clause-keys : goal.returns-clause-keys
returns-clause-keys c = (c.in_ok-table.table, c.in_ok-table.ensures.table, sym (c.copied.ensures ∙ c.find.ensures))
