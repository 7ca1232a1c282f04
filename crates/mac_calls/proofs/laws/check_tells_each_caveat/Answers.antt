use Rattle.mac_calls.proofs.JudgedLemmas.{tells_each}
use Rattle.mac_calls.proofs.laws.check_tells_each_caveat.Goals as goal

pub returns : goal.returns
returns c caveats x = tells_each caveats x
