-- An event and what it came to, in a run.
use Rattle.std.proofs.Common.{◌≡◌, ℕ, List, Some, slice_get}
use Rattle.mac_order.specs.declared.event.Event.{Event}
use Rattle.mac_order.specs.declared.event.Outcome.{Outcome}
use Rattle.mac_order.specs.State.{State}
use Rattle.mac_order.specs.Ran.{ran}

-- this event and this outcome stand at the index of the run from the state
pub record StandsAt {Which Job Reply : Type 0} (reply_to : Job → Reply) (state : State Job Reply) (events : List (Event Which Job Reply)) (index : ℕ) (event : Event Which Job Reply) (given : Outcome) : Type 0 where
  pub event_is : slice_get events index ≡ Some event
  pub outcome_is : slice_get (ran reply_to state events).1 index ≡ Some given
