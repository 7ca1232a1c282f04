-- The others keep their turns, and nobody has another.
use Rattle.std.proofs.Common.{rules}
use Rattle.std.proofs.lemmas.Fn.{filter_same}
use Rattle.mac_gate.proofs.TurnLemmas.{once-left}
use Rattle.mac_gate.proofs.turns.Turns.leave.Goals as goal

pub invariant_of-self : goal.invariant_of-self
invariant_of-self c =
    let kept = filter_same _ _ _ (λ x b f k. search rules) _ _ c.retain.ensures.filtered in
    rw kept (once-left c.self.inside.slots.items c.args.slot c.self.invariant)

pub returns : goal.returns
returns c =
    let kept = filter_same _ _ _ (λ x b f k. search rules) _ _ c.retain.ensures.filtered in
    rw (← c.self.view_is) kept
