-- A slot is found where it has a turn, and it has one at most.
use Rattle.std.proofs.Common.{◌∙◌, ap, cond, sym}
use Rattle.mac_gate.proofs.TurnLemmas.{times-found}
use Rattle.mac_gate.proofs.turns.Turns.has.Goals as goal

pub returns : goal.returns
returns c =
    rw (← c.self.view_is)
    (times-found c.self.inside.slots.items c.args.slot c.self.invariant ∙ ap (λ is. cond is 1 0) (sym c.contains.ensures.value))
