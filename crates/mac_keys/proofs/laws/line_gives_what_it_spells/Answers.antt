use Rattle.mac_keys.proofs.Spelling.{Spells-from_line, line_of-spelled}
use Rattle.mac_keys.proofs.laws.line_gives_what_it_spells.Goals as goal

pub returns : goal.returns
returns c = λ line given. (Spells-from_line line given, line_of-spelled line given)
