-- Whole runs of the core.
use Rattle.std.specs.Prelude.{List, [], ◌∷◌}
use Rattle.mac_order.specs.State.{State}
use Rattle.mac_order.specs.Step.{step}
use Rattle.mac_order.specs.declared.event.Event.{Event}
use Rattle.mac_order.specs.declared.event.Outcome.{Outcome}

-- the state after these events, one after another, and their outcomes
abbrev pub ran : {Which Job Reply : Type 0} → (Job → Reply) → State Job Reply
    → List (Event Which Job Reply) → State Job Reply × List Outcome
ran reply_to state [] = (state, [])
ran reply_to state (event ∷ events) =
    let after = step reply_to state event in
    let rest = ran reply_to after.0 events in
    (rest.0, after.1 ∷ rest.1)
