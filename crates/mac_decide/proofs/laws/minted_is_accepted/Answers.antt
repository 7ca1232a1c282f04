use Rattle.std.proofs.Common.{[], ◌∷◌, refl, arith}
use Rattle.mac_decide.specs.Minted.{minted}
use Rattle.mac_decide.proofs.NarrowingLemmas.{Minted-by, Accepts-minted}
use Rattle.mac_decide.proofs.laws.minted_is_accepted.Goals as goal

pub returns-clause-minted : goal.returns-clause-minted
returns-clause-minted c = λ key location identifier caveats. Minted-by (key ∷ []) key (minted key location identifier caveats) (0, omega arith, refl) refl

pub returns-clause-accepted : goal.returns-clause-accepted
returns-clause-accepted c = Accepts-minted
