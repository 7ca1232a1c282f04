use Rattle.mac_decide.proofs.NowLemmas.{now-then, now-no_clock}
use Rattle.mac_decide.proofs.laws.verify_now_is_verify.Goals as goal

pub returns-clause-same : goal.returns-clause-same
returns-clause-same c = now-then

pub returns-clause-no_clock : goal.returns-clause-no_clock
returns-clause-no_clock c = now-no_clock
