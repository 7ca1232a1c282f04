-- The first one's turn is over.
use Rattle.mac_gate.proofs.TurnLemmas.{once-rest}
use Rattle.mac_gate.proofs.turns.Turns.next.Goals as goal

pub invariant_of-self : goal.invariant_of-self
invariant_of-self c = rw c.pop_front.ensures.rest (once-rest c.self.inside.slots.items c.self.invariant)
