use Rattle.mac_decide.proofs.CarriedLemmas.{attenuate-handed, attenuate-carried}
use Rattle.mac_decide.proofs.laws.attenuated_bytes_are_read.Goals as goal

pub returns-clause-handed : goal.returns-clause-handed
returns-clause-handed c = λ terms payload old bytes form caveats asks e.
    let handed = attenuate-handed terms payload old bytes form caveats asks e in
    (handed.0, handed.1)

pub returns-clause-added : goal.returns-clause-added
returns-clause-added c = attenuate-carried
