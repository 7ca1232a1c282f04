use Rattle.std.proofs.Common.{Contains, length, subst, sym, arith}
use Rattle.mac_http.specs.Path.{steps}
use Rattle.mac_http.proofs.LawLemmas.{are_fronts, are_steps}
use Rattle.mac_http.proofs.laws.steps_are_fronts.Goals as goal

pub returns : goal.returns
returns c = λ path step. (
  are_fronts path step (length path) (omega arith),
  (λ s. subst (λ p. Contains (steps path) p) (sym s.front) (are_steps path (length path) s.count s.above s.within s.ends)),
)
