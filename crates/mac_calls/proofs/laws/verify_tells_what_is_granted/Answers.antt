use Rattle.mac_calls.proofs.JudgedLemmas.{tells_granted}
use Rattle.mac_calls.proofs.laws.verify_tells_what_is_granted.Goals as goal

pub returns : goal.returns
returns c = tells_granted
