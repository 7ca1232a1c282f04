use Rattle.std.proofs.Common.{[]}
use Rattle.mac_decide.proofs.LackLemmas.{none_is_nearer}
use Rattle.mac_decide.proofs.laws.none_is_nearer.Goals as goal

pub returns : goal.returns
returns c = λ caveat facts. none_is_nearer caveat [] facts
