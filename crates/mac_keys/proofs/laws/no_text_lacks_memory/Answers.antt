use Rattle.mac_keys.specs.Table.{lines_of}
use Rattle.mac_keys.proofs.FileMeaning.{no_memory_told}
use Rattle.mac_keys.proofs.laws.no_text_lacks_memory.Goals as goal

pub returns : goal.returns
returns c = λ text. no_memory_told (lines_of text)
