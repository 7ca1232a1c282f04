use Rattle.mac_gate.proofs.LineLemmas.{same_line}
use Rattle.mac_gate.proofs.laws.lines_tell_nothing_else.Goals as goal

pub returns : goal.returns
returns c fields identifiers one other e f alike is_e is_f = same_line fields identifiers one other e f alike is_e is_f
