use Rattle.std.proofs.Common.{subst}
use Rattle.mac_token.specs.Read.{Read}
use Rattle.mac_token.proofs.ReadLaws.{read_means, read_once}
use Rattle.mac_token.proofs.laws.read_is_meant.Goals as goal

pub returns : goal.returns
returns c = λ bytes end fits. (read_once bytes end fits, λ e. subst (Read bytes) e (read_means bytes fits))
