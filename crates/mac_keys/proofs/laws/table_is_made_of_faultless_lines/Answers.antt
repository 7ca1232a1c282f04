use Rattle.mac_keys.specs.Table.{lines_of}
use Rattle.mac_keys.proofs.FileMeaning.{faultless_made, made_of_faultless}
use Rattle.mac_keys.proofs.laws.table_is_made_of_faultless_lines.Goals as goal

pub returns : goal.returns
returns c = λ text table. (faultless_made (lines_of text) table, made_of_faultless (lines_of text) table)
