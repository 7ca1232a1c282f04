use Rattle.std.proofs.Common.{◌++◌, [], codes, refl, inl, inr, arith}
use Rattle.std.proofs.lemmas.Grind.{common_steps}
use Rattle.mac_decide.specs.Time.{two_digits}
use Rattle.mac_decide.proofs.time.second.Goals as goal

pub returns-in-58 : goal.returns-in-58
returns-in-58 c =
    (omega arith, (codes ":" ++ two_digits _, [], inl refl, inr refl, grind (arith, common_steps)))
