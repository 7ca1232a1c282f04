use Rattle.std.proofs.Common.{inl, inr, sym, ◌∙◌}
use Rattle.std.proofs.lemmas.Bool.{false≢true}
use Rattle.mac_decide.proofs.SatisfiedLemmas.{Contains-found, found-Contains}
use Rattle.mac_decide.proofs.context.satisfied.Goals as goal

pub returns-then-is_in_time : goal.returns-then-is_in_time
returns-then-is_in_time c = ((λ e. inr (c.is_in_time.ensures.0 c.if-is_in_time.true)), (λ h. c.if-is_in_time.true))

pub returns-else-is_in_time : goal.returns-else-is_in_time
returns-else-is_in_time c = (
  (λ e. inl (Contains-found _ _ (sym c.is_fact.ensures ∙ e))),
  (λ h. elim h [
    | inl has ↦ c.is_fact.ensures ∙ found-Contains _ _ has
    | inr bound ↦ absurd (false≢true (sym c.if-is_in_time.false ∙ c.is_in_time.ensures.1 bound))
  ]),
)
