use Rattle.std.proofs.Common.{◌↔◌, sym, subst}
use Rattle.std.specs.List.{Any, Contains}
use Rattle.mac_keys.specs.Table.{lines_of}
use Rattle.mac_keys.specs.Meaning.{GivesKey}
use Rattle.mac_keys.proofs.FileMeaning.{faultless_made}
use Rattle.mac_keys.proofs.KeyMeaning.{line_of_key, key_of_line}
use Rattle.mac_keys.proofs.Bounded.{keys_at-faultless}
use Rattle.mac_keys.proofs.laws.table_has_the_keys_of_its_lines.Goals as goal

pub returns-clause-all : goal.returns-clause-all
returns-clause-all c = λ text table made name. keys_at-faultless (lines_of text) table name (faultless_made (lines_of text) table made)

pub returns-clause-each : goal.returns-clause-each
returns-clause-each c = λ text table made name key.
    let lines = lines_of text in
    subst (λ keys. Contains keys key ↔ Any (GivesKey name key) lines)
    (sym (keys_at-faultless lines table name (faultless_made lines table made)))
    (line_of_key name key lines, key_of_line name key lines)
