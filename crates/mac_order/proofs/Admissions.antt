-- What arrived on a connection is what was admitted.
use Rattle.std.proofs.Common.{◌≡◌, ℕ, ◌+◌, inl, inr, true, false, if◌then◌else◌, ◌==◌, nat_le, List, [], ◌∷◌, ◌++◌, length, map, set, Option, Some, None, slice_get, sym, ◌∙◌, ap, refl, arith, append_assoc, append-nil, length-append}
use Rattle.std.proofs.lemmas.Bool.{cases_Bool}
use Rattle.std.proofs.lemmas.Bool.Decides.{eqb_tells}
use Rattle.std.proofs.lemmas.Option.{same_Some, slice_get_within}
use Rattle.std.specs.List.{enumerate_from}
use Rattle.mac_order.specs.declared.reorder.TheConstants.{SLOTS}
use Rattle.mac_order.specs.declared.event.Assignment.{Assignment}
use Rattle.mac_order.specs.declared.event.Event.{Event}
use Rattle.mac_order.specs.declared.event.Event.TheVariants.{Arrive, Claim, Finish, Send, Close}
use Rattle.mac_order.specs.declared.event.Outcome.{Outcome}
use Rattle.mac_order.specs.declared.event.Outcome.TheVariants.{Claimed, Taken}
use Rattle.mac_order.specs.State.{Connection, State, unsent}
use Rattle.mac_order.specs.Step.{after_arrive, after_send, after_reply, after_close, after_claim, after_finish, is_claimable, step}
use Rattle.mac_order.specs.Ran.{ran}
use Rattle.mac_order.specs.History.{given_by, admitted_by, admitted}
use Rattle.mac_order.proofs.Put.{slice_get-set_same, put}
use Rattle.mac_order.proofs.Steps.{found_connection, found_claim, found_task, found_finish}

enumerate_from-append : {Item : Type 0} (first : ℕ) (items others : List Item) → enumerate_from first (items ++ others) ≡ enumerate_from first items ++ enumerate_from (first + length items) others
enumerate_from-append first [] others = ap (λ from. enumerate_from from others) (omega arith)
enumerate_from-append first (item ∷ items) others =
    ap (λ rest. (first, item) ∷ rest) (enumerate_from-append (first + 1) items others ∙ ap (λ from. enumerate_from (first + 1) items ++ enumerate_from from others) (omega arith))

-- the connection is there, with jobs behind those that it had, and these are told with their places
pub record Grows {Job Reply : Type 0} (link : Connection Job Reply) (connections : List (Connection Job Reply)) (number : ℕ) (told : List (ℕ × Job)) : Type 0 where
  pub now : Connection Job Reply
  pub there : slice_get connections number ≡ Some now
  pub jobs : List Job
  pub arrived : now.arrived ≡ link.arrived ++ jobs
  pub told_is : told ≡ enumerate_from (length link.arrived) jobs

module _ {Job Reply : Type 0} where
  reply-arrived : (reply_to : Job → Reply) (link : Connection Job Reply) (job : Option Job) → (after_reply reply_to link job).0.arrived ≡ link.arrived
  reply-arrived reply_to link None = refl
  reply-arrived reply_to link (Some job) = refl

  send-arrived : (reply_to : Job → Reply) (link : Connection Job Reply) → (after_send reply_to link).0.arrived ≡ link.arrived
  send-arrived reply_to link = grind (arith, reply-arrived reply_to link (slice_get link.arrived (length link.sent)))

  close-arrived : (link : Connection Job Reply) → (after_close link).0.arrived ≡ link.arrived
  close-arrived link = grind arith

  finish-arrived : (place : ℕ) (link : Connection Job Reply) → (after_finish place link).0.arrived ≡ link.arrived
  finish-arrived place link = grind arith

  -- what an arrive tells, and the jobs behind those that were there
  arrive-grows : (job : Job) (link : Connection Job Reply) → (jobs : List Job) × ((after_arrive job link).0.arrived ≡ link.arrived ++ jobs) × (map (λ place. (place, job)) (given_by (after_arrive job link).1) ≡ enumerate_from (length link.arrived) jobs)
  arrive-grows job link = elim (cases_Bool link.closed) [
    | inl shut ↦ ([], rw shut (sym (append-nil link.arrived)), rw shut refl)
    | inr live ↦ elim (cases_Bool (nat_le SLOTS (unsent link))) [
      | inl full ↦ ([], rw (live, full) (sym (append-nil link.arrived)), rw (live, full) refl)
      | inr room ↦ (job ∷ [], rw (live, room) refl, rw (live, room) refl)
    ]
  ]

  module _ (state : State Job Reply) (number : ℕ) (link : Connection Job Reply) (known : slice_get state.connections number ≡ Some link) where
    same : Grows link state.connections number []
    same = record { now = link; there = known; jobs = []; arrived = sym (append-nil link.arrived); told_is = refl }

    -- a connection is put in the place of one with the same jobs
    same_put : (here : ℕ) (old after : Connection Job Reply) → slice_get state.connections here ≡ Some old → after.arrived ≡ old.arrived → Grows link (set state.connections here after) number []
    same_put here old after at kept =
        let (now, there, arrived) = put state.connections here number old after link (λ (it : Connection Job Reply). it.arrived ≡ link.arrived) at known
        (λ is. kept ∙ ap (λ (it : Connection Job Reply). it.arrived) (same_Some _ _ (sym at ∙ ap (slice_get state.connections) is ∙ known))) refl in
        record { now = now; there = there; jobs = []; arrived = arrived ∙ sym (append-nil link.arrived); told_is = refl }

    by_connection : (here : ℕ) (found : Option (Connection Job Reply)) (act : Connection Job Reply → Connection Job Reply × Outcome) → slice_get state.connections here ≡ found → ((from : Connection Job Reply) → (act from).0.arrived ≡ from.arrived)
        → Grows link (found_connection state here found act).0.connections number []
    by_connection here None act at keeps = same
    by_connection here (Some old) act at keeps = same_put here old (act old).0 at (keeps old)

    by_claim : (worker : ℕ) (held : Option (Option Assignment)) (task : Assignment) (found : Option (Connection Job Reply)) → slice_get state.connections task.connection ≡ found → Grows link (found_claim state worker held task found).0.connections number []
    by_claim worker None task found at = same
    by_claim worker (Some held) task None at = same
    by_claim worker (Some (Some held)) task (Some old) at = same
    by_claim worker (Some None) task (Some old) at =
        elim (is_claimable old task.place) as (λ claimable. Grows link (if◌then◌else◌ {A = State Job Reply × Outcome} claimable (record { connections = set state.connections task.connection (after_claim task.place old); workers = set state.workers worker (Some task) }, Claimed) (state, Taken)).0.connections number []) [
          | true ↦ same_put task.connection old (after_claim task.place old) at refl
          | false ↦ same
        ]

    by_task : (worker : ℕ) (task : Assignment) (found : Option (Connection Job Reply)) → slice_get state.connections task.connection ≡ found → Grows link (found_task state worker task found).0.connections number []
    by_task worker task None at = same
    by_task worker task (Some old) at = same_put task.connection old (after_finish task.place old).0 at (finish-arrived task.place old)

    by_finish : (worker : ℕ) (held : Option (Option Assignment)) → Grows link (found_finish state worker held).0.connections number []
    by_finish worker None = same
    by_finish worker (Some None) = same
    by_finish worker (Some (Some task)) = by_task worker task (slice_get state.connections task.connection) refl

    by_arrive : (here : ℕ) (job : Job) (found : Option (Connection Job Reply)) → slice_get state.connections here ≡ found
        → Grows link (found_connection state here found (after_arrive job)).0.connections number (if here == number then map (λ place. (place, job)) (given_by (found_connection state here found (after_arrive job)).1) else [])
    by_arrive here job None at =
        elim (here == number) as (λ own. Grows link state.connections number (if own then [] else [])) [ true ↦ same | false ↦ same ]
    by_arrive here job (Some old) at = elim (eqb_tells here number) [
      | inl is ↦
          let own : old ≡ link = same_Some _ _ (sym at ∙ ap (slice_get state.connections) is.1 ∙ known) in
          let grown = arrive-grows job old in
          rw is.0 (record {
            now = (after_arrive job old).0;
            there = ap (slice_get (set state.connections here (after_arrive job old).0)) (sym is.1) ∙ slice_get-set_same state.connections here (after_arrive job old).0 (slice_get_within state.connections here old at);
            jobs = grown.0;
            arrived = grown.1 ∙ ap (λ (it : Connection Job Reply). it.arrived ++ grown.0) own;
            told_is = grown.2 ∙ ap (λ (it : Connection Job Reply). enumerate_from (length it.arrived) grown.0) own;
          })
      | inr is ↦
          let (now, there, arrived) = put state.connections here number old (after_arrive job old).0 link (λ (it : Connection Job Reply). it.arrived ≡ link.arrived) at known
          (λ same'. absurd (is.1 same')) refl in
          rw is.0 (record { now = now; there = there; jobs = []; arrived = arrived ∙ sym (append-nil link.arrived); told_is = refl })
    ]

module _ {Which Job Reply : Type 0} (reply_to : Job → Reply) where
  -- what a step tells of a connection, and the jobs behind those that were there
  grows-step : (state : State Job Reply) (number : ℕ) (link : Connection Job Reply) → slice_get state.connections number ≡ Some link → (event : Event Which Job Reply) → Grows link (step reply_to state event).0.connections number (admitted_by number event (step reply_to state event).1)
  grows-step state number link known (Arrive here job) = by_arrive state number link known here job (slice_get state.connections here) refl
  grows-step state number link known (Claim worker here place) = by_claim state number link known worker (slice_get state.workers worker) (record { connection = here; place = place }) (slice_get state.connections here) refl
  grows-step state number link known (Finish worker) = by_finish state number link known worker (slice_get state.workers worker)
  grows-step state number link known (Send here) = by_connection state number link known here (slice_get state.connections here) (after_send reply_to) refl (send-arrived reply_to)
  grows-step state number link known (Close here) = by_connection state number link known here (slice_get state.connections here) after_close refl close-arrived

  -- the same of a run
  pub grows-ran : (state : State Job Reply) (number : ℕ) (link : Connection Job Reply) → slice_get state.connections number ≡ Some link → (events : List (Event Which Job Reply)) → Grows link (ran reply_to state events).0.connections number (admitted number events (ran reply_to state events).1)
  grows-ran state number link known [] = same state number link known
  grows-ran state number link known (event ∷ events) =
      let here = grows-step state number link known event in
      let rest = grows-ran (step reply_to state event).0 number here.now here.there events in
      record {
        now = rest.now;
        there = rest.there;
        jobs = here.jobs ++ rest.jobs;
        arrived = rest.arrived ∙ ap (λ jobs. jobs ++ rest.jobs) here.arrived ∙ append_assoc link.arrived here.jobs rest.jobs;
        told_is =
            (λ i. here.told_is i ++ rest.told_is i)
            ∙ ap (λ from. enumerate_from (length link.arrived) here.jobs ++ enumerate_from from rest.jobs) (ap length here.arrived ∙ length-append link.arrived here.jobs)
            ∙ sym (enumerate_from-append (length link.arrived) here.jobs rest.jobs);
      }
