-- What each step keeps of a connection, a whole run keeps.
use Rattle.std.proofs.Common.{◌≡◌, ℕ, zero, suc, ◌<◌, true, List, [], ◌∷◌, length, replicate, false, if◌then◌else◌, set, Option, Some, None, slice_get, sym, ◌∙◌, ap, refl, subst, arith, length-set}
use Rattle.std.proofs.lemmas.Option.{none-some, same_Some, slice_get_within}
use Rattle.mac_order.specs.declared.event.Assignment.{Assignment}
use Rattle.mac_order.specs.declared.event.Event.{Event}
use Rattle.mac_order.specs.declared.event.Event.TheVariants.{Arrive, Claim, Finish, Send, Close}
use Rattle.mac_order.specs.declared.event.Outcome.{Outcome}
use Rattle.mac_order.specs.declared.event.Outcome.TheVariants as outcome
use Rattle.mac_order.specs.State.{Connection, State, fresh, opening}
use Rattle.mac_order.specs.Step.{step, after_arrive, after_send, after_close, after_claim, after_finish, is_claimable}
use Rattle.mac_order.specs.Ran.{ran}
use Rattle.mac_order.proofs.Put.{slice_get-within}
use Rattle.mac_order.proofs.Moves.{Moved, by_step}
use Rattle.mac_order.proofs.Steps.{found_connection, found_claim, found_task, found_finish}

module _ {Which Job Reply : Type 0} (reply_to : Job → Reply) (P : Connection Job Reply → Type 0) (keeps : (F : ℕ → Type 0) (places : List ℕ) (link after : Connection Job Reply) → Moved reply_to F link places after → P link → P after) where
  -- a fact that is true of a connection before a run is true of it after
  pub kept : (state : State Job Reply) (events : List (Event Which Job Reply)) (number : ℕ) (link : Connection Job Reply) → slice_get state.connections number ≡ Some link → P link
      → (after : Connection Job Reply) × (slice_get (ran reply_to state events).0.connections number ≡ Some after) × P after
  kept state [] number link known holds = (link, known, holds)
  kept state (event ∷ events) number link known holds =
      let (now, there, moved) = by_step reply_to state number link known event in
      kept (step reply_to state event).0 events number now there (keeps _ _ link now moved holds)

-- in the opening state each connection is fresh
pub opening-fresh : {Item : Type 0} (count number : ℕ) (item found : Item) → slice_get (replicate count item) number ≡ Some found → item ≡ found
opening-fresh zero number item found is = absurd (none-some _ is)
opening-fresh (suc count) zero item found is = same_Some _ _ is
opening-fresh (suc count) (suc number) item found is = opening-fresh count number item found is

-- A step makes and drops no connection.
module _ {Job Reply : Type 0} (state : State Job Reply) where
  length-on_connection : (here : ℕ) (found : Option (Connection Job Reply)) (act : Connection Job Reply → Connection Job Reply × Outcome) → length (found_connection state here found act).0.connections ≡ length state.connections
  length-on_connection here None act = refl
  length-on_connection here (Some old) act = length-set state.connections here (act old).0

  length-claim_by : (worker : ℕ) (held : Option (Option Assignment)) (task : Assignment) (found : Option (Connection Job Reply)) → length (found_claim state worker held task found).0.connections ≡ length state.connections
  length-claim_by worker None task found = refl
  length-claim_by worker (Some held) task None = refl
  length-claim_by worker (Some (Some held)) task (Some old) = refl
  length-claim_by worker (Some None) task (Some old) =
      elim (is_claimable old task.place) as (λ claimable. length (if◌then◌else◌ {A = State Job Reply × Outcome} claimable (record { connections = set state.connections task.connection (after_claim task.place old); workers = set state.workers worker (Some task) }, outcome.Claimed) (state, outcome.Taken)).0.connections ≡ length state.connections) [
        | true ↦ length-set state.connections task.connection (after_claim task.place old)
        | false ↦ refl
      ]

  length-finish_task : (worker : ℕ) (task : Assignment) (found : Option (Connection Job Reply)) → length (found_task state worker task found).0.connections ≡ length state.connections
  length-finish_task worker task None = refl
  length-finish_task worker task (Some old) = length-set state.connections task.connection (after_finish task.place old).0

  length-finish_by : (worker : ℕ) (held : Option (Option Assignment)) → length (found_finish state worker held).0.connections ≡ length state.connections
  length-finish_by worker None = refl
  length-finish_by worker (Some None) = refl
  length-finish_by worker (Some (Some task)) = length-finish_task worker task (slice_get state.connections task.connection)

  pub length-step : {Which : Type 0} (reply_to : Job → Reply) (event : Event Which Job Reply) → length (step reply_to state event).0.connections ≡ length state.connections
  length-step reply_to (Arrive here job) = length-on_connection here (slice_get state.connections here) (after_arrive job)
  length-step reply_to (Claim worker here place) = length-claim_by worker (slice_get state.workers worker) (record { connection = here; place = place }) (slice_get state.connections here)
  length-step reply_to (Finish worker) = length-finish_by worker (slice_get state.workers worker)
  length-step reply_to (Send here) = length-on_connection here (slice_get state.connections here) (after_send reply_to)
  length-step reply_to (Close here) = length-on_connection here (slice_get state.connections here) after_close

pub length-ran_connections : {Which Job Reply : Type 0} (reply_to : Job → Reply) (state : State Job Reply) (events : List (Event Which Job Reply)) → length (ran reply_to state events).0.connections ≡ length state.connections
length-ran_connections reply_to state [] = refl
length-ran_connections reply_to state (event ∷ events) = length-ran_connections reply_to (step reply_to state event).0 events ∙ length-step state reply_to event

-- a connection of the opening state is fresh
pub opening-known : {Job Reply : Type 0} (connections workers number : ℕ) → number < length (opening {Job = Job} {Reply = Reply} connections workers).connections → slice_get (opening {Job = Job} {Reply = Reply} connections workers).connections number ≡ Some fresh
opening-known {Job} {Reply} connections workers number within =
    let (was, there) = slice_get-within (opening {Job = Job} {Reply = Reply} connections workers).connections number within in
    there ∙ ap (λ here. Some here) (sym (opening-fresh connections number fresh was there))

-- a connection that is reached was there from the opening on
pub reached-known : {Which Job Reply : Type 0} (reply_to : Job → Reply) (connections workers : ℕ) (events : List (Event Which Job Reply)) (number : ℕ) (link : Connection Job Reply) → slice_get (ran reply_to (opening connections workers) events).0.connections number ≡ Some link
    → slice_get (opening {Job = Job} {Reply = Reply} connections workers).connections number ≡ Some fresh
reached-known reply_to connections workers events number link known =
    let within = slice_get_within (ran reply_to (opening connections workers) events).0.connections number link known in
    opening-known connections workers number (omega (arith, length-ran_connections reply_to (opening connections workers) events))

-- a fact that is true of a fresh connection, and that each step keeps, is true of each connection that is reached
pub reached-kept : {Which Job Reply : Type 0} (reply_to : Job → Reply) (P : Connection Job Reply → Type 0) → ((F : ℕ → Type 0) (places : List ℕ) (link after : Connection Job Reply) → Moved reply_to F link places after → P link → P after) → P fresh
    → (connections workers : ℕ) (events : List (Event Which Job Reply)) (number : ℕ) (link : Connection Job Reply) → slice_get (ran reply_to (opening connections workers) events).0.connections number ≡ Some link → P link
reached-kept reply_to P keeps begins connections workers events number link known =
    let (after, is, holds) = kept reply_to P keeps (opening connections workers) events number fresh (reached-known reply_to connections workers events number link known) begins in
    subst P (same_Some _ _ (sym is ∙ known)) holds
