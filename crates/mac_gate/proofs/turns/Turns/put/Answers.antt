-- Who has none gets one.
use Rattle.std.proofs.Common.{◌∙◌, refl}
use Rattle.mac_gate.proofs.TurnLemmas.{once-put}
use Rattle.mac_gate.proofs.turns.Turns.put.Goals as goal

pub invariant_of-self : goal.invariant_of-self
invariant_of-self c =
    rw c.in_ok-push_back.ensures.items
    (once-put c.self.inside.slots.items c.args.slot (rw c.self.view_is (c.has.ensures ∙ rw c.if-not-has.true refl)) c.self.invariant)

pub invariant_of-self-in_err-push_back : goal.invariant_of-self-in_err-push_back
invariant_of-self-in_err-push_back c = rw c.in_err-push_back.ensures.items c.self.invariant
