use Rattle.mac_keys.specs.Table.{lines_of}
use Rattle.mac_keys.proofs.FileMeaning.{first_told, told_first}
use Rattle.mac_keys.proofs.laws.first_fault_is_told.Goals as goal

pub returns : goal.returns
returns c = λ text number fault. (first_told (lines_of text) number fault, told_first (lines_of text) number fault)
