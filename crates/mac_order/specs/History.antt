-- What the laws say of whole runs. All of it is this project's own.
use Rattle.std.specs.Prelude.{◌≡◌, ℕ, ◌==◌, if◌then◌else◌, false, List, [], ◌∷◌, ◌++◌, map, Some, slice_get}
use Rattle.mac_order.specs.State.{Connection, State, opening}
use Rattle.mac_order.specs.Step.{step}
use Rattle.mac_order.specs.Ran.{ran}
use Rattle.mac_order.specs.declared.event.Event.{Event}
use Rattle.mac_order.specs.declared.event.Event.TheVariants.{Arrive, Send}
use Rattle.mac_order.specs.declared.event.Outcome.{Outcome}
use Rattle.mac_order.specs.declared.event.Outcome.TheVariants.{Admitted, Sent}

-- events of a service, in the order in which they come
abbrev pub Events : Type 0 → Type 0 → Type 0 → Type 0
Events Which Job Reply = List (Event Which Job Reply)

-- some list follows the first, and both together are the second
abbrev pub IsBeginningOf : {Item : Type 0} → List Item → List Item → Type 0
IsBeginningOf {Item} items others = (rest : List Item) × (items ++ rest ≡ others)

-- the place that an outcome says was given to a job, if any
abbrev pub given_by : Outcome → List ℕ
given_by (Admitted place) = place ∷ []
given_by outcome = []

-- the place that an outcome says was sent, if any
abbrev pub sent_by : Outcome → List ℕ
sent_by (Sent place) = place ∷ []
sent_by outcome = []

module _ {Which Job Reply : Type 0} where
  -- the state after these events, from the opening state of so many connections and workers
  abbrev pub reached : (Job → Reply) → ℕ → ℕ → Events Which Job Reply → State Job Reply
  reached reply_to connections workers events =
      (ran reply_to (opening connections workers) events).0

  -- the outcomes of these events, from that state
  abbrev pub outcomes : (Job → Reply) → ℕ → ℕ → Events Which Job Reply → List Outcome
  outcomes reply_to connections workers events =
      (ran reply_to (opening connections workers) events).1

  -- in the state after these events the connection of this number is this one
  abbrev pub Reaches : (Job → Reply) → ℕ → ℕ → Events Which Job Reply → ℕ → Connection Job Reply
      → Type 0
  Reaches reply_to connections workers events number link =
      slice_get (reached reply_to connections workers events).connections number ≡ Some link

  -- after these events the connection of this number has the lists that this one has
  abbrev pub KeepsLists : (Job → Reply) → State Job Reply → Events Which Job Reply → ℕ
      → Connection Job Reply → Type 0
  KeepsLists reply_to state events number link =
      (after : Connection Job Reply)
      × (slice_get (ran reply_to state events).0.connections number ≡ Some after)
      × (after.arrived ≡ link.arrived) × (after.sent ≡ link.sent)

  -- in the run over these events, the one at this index is this one, and came to this
  abbrev pub Happens : (Job → Reply) → ℕ → ℕ → Events Which Job Reply → ℕ → Event Which Job Reply
      → Outcome → Type 0
  Happens reply_to connections workers events index event outcome =
      (slice_get events index ≡ Some event)
      × (slice_get (outcomes reply_to connections workers events) index ≡ Some outcome)

  -- the job of a connection that this event had admitted, with its place, if any
  abbrev pub admitted_by : ℕ → Event Which Job Reply → Outcome → List (ℕ × Job)
  admitted_by number (Arrive here job) outcome =
      if here == number then map (λ place. (place, job)) (given_by outcome) else []
  admitted_by number event outcome = []

  -- the jobs of a connection that these events had admitted, each with its place, in order
  abbrev pub admitted : ℕ → Events Which Job Reply → List Outcome → List (ℕ × Job)
  admitted number [] outcomes = []
  admitted number (event ∷ events) [] = []
  admitted number (event ∷ events) (outcome ∷ outcomes) =
      admitted_by number event outcome ++ admitted number events outcomes

  -- the place of a connection that this event sent, if any
  abbrev pub place_of : ℕ → Event Which Job Reply → Outcome → List ℕ
  place_of number (Send here) outcome = if here == number then sent_by outcome else []
  place_of number event outcome = []

  -- the places of a connection that these events sent, in order
  abbrev pub sent_places : ℕ → Events Which Job Reply → List Outcome → List ℕ
  sent_places number [] outcomes = []
  sent_places number (event ∷ events) [] = []
  sent_places number (event ∷ events) (outcome ∷ outcomes) =
      place_of number event outcome ++ sent_places number events outcomes

-- the event leaves the connection of this number as it was
abbrev pub Spares : (Which : Type 0) {Job Reply : Type 0} → (Job → Reply) → State Job Reply
    → Event Which Job Reply → ℕ → Type 0
Spares Which reply_to state event number =
    slice_get (step reply_to state event).0.connections number ≡ slice_get state.connections number

-- some events lead from the state to one whose connection 0 is open, with these jobs and replies
pub record LeadsTo (Which : Type 0) {Job Reply : Type 0} (reply_to : Job → Reply)
    (state : State Job Reply) (arrived : List Job) (sent : List Reply) : Type 0 where
  pub events : Events Which Job Reply
  pub link : Connection Job Reply
  pub known : slice_get (ran reply_to state events).0.connections 0 ≡ Some link
  pub live : link.closed ≡ false
  pub arrived_is : link.arrived ≡ arrived
  pub sent_is : link.sent ≡ sent

-- some events lead the opening state of one connection and one worker to these jobs and replies
abbrev pub IsReached : (Which : Type 0) {Job Reply : Type 0} → (Job → Reply) → List Job
    → List Reply → Type 0
IsReached Which reply_to arrived sent = LeadsTo Which reply_to (opening 1 1) arrived sent
