use Rattle.std.proofs.Common.{subst}
use Rattle.mac_token.specs.Read.{Carried}
use Rattle.mac_token.proofs.ReadLaws.{carried_means, carried_once}
use Rattle.mac_token.proofs.laws.carried_is_meant.Goals as goal

pub returns : goal.returns
returns c = λ bytes end. (carried_once bytes end, λ e. subst (Carried bytes) e (carried_means bytes))
