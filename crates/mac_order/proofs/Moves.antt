-- What one step makes of a connection.
use Rattle.std.proofs.Common.{◌≡◌, ℕ, inl, inr, true, false, if◌then◌else◌, nat_le, ◌==◌, List, [], ◌∷◌, ◌++◌, length, set, Option, Some, None, slice_get, sym, ◌∙◌, ap, refl, subst, arith}
use Rattle.std.proofs.lemmas.Bool.{cases_Bool}
use Rattle.std.proofs.lemmas.Bool.Decides.{eqb_tells}
use Rattle.std.proofs.lemmas.Option.{same_Some, slice_get_within}
use Rattle.std.specs.FinSet.{contains, insert}
use Rattle.mac_order.specs.declared.reorder.TheConstants.{SLOTS}
use Rattle.mac_order.specs.declared.event.Assignment.{Assignment}
use Rattle.mac_order.specs.declared.event.Event.{Event}
use Rattle.mac_order.specs.declared.event.Event.TheVariants.{Arrive, Claim, Finish, Send, Close}
use Rattle.mac_order.specs.declared.event.Outcome.{Outcome}
use Rattle.mac_order.specs.declared.event.Outcome.TheVariants as outcome
use Rattle.mac_order.specs.State.{Connection, State, unsent}
use Rattle.mac_order.specs.History.{place_of, sent_by}
use Rattle.mac_order.specs.Step.{after_arrive, after_send, after_reply, after_close, after_claim, after_finish, is_claimable, step}
use Rattle.mac_order.proofs.Put.{slice_get-set_same, slice_get-set_other, put}
use Rattle.mac_order.proofs.Steps.{found_connection, found_claim, found_task, found_finish}

module _ {Job Reply : Type 0} where
  -- the ways in which a step may change a connection, with the places that it sends. What a finish tells of its place is F
  pub data Moved (reply_to : Job → Reply) (F : ℕ → Type 0) (link : Connection Job Reply) : List ℕ → Connection Job Reply → Type 0 where
    stays : Moved reply_to F link [] link
    arrives : (job : Job) → link.closed ≡ false → Moved reply_to F link [] (record link { arrived = link.arrived ++ job ∷ [] })
    claims : (place : ℕ) → Moved reply_to F link [] (record link { claimed = insert link.claimed place })
    finishes : (place : ℕ) → link.closed ≡ false → F place → Moved reply_to F link [] (record link { finished = insert link.finished place })
    sends : (job : Job) → link.closed ≡ false → slice_get link.arrived (length link.sent) ≡ Some job → contains link.finished (length link.sent) ≡ true
        → Moved reply_to F link (length link.sent ∷ []) (record link { sent = link.sent ++ reply_to job ∷ [] })
    closes : Moved reply_to F link [] (record link { closed = true })

module _ {Job Reply : Type 0} (reply_to : Job → Reply) (F : ℕ → Type 0) where
  by_arrive : (job : Job) (link : Connection Job Reply) → Moved reply_to F link [] (after_arrive job link).0
  by_arrive job link = elim (cases_Bool link.closed) [
    | inl shut ↦ subst (Moved reply_to F link []) (let e : link ≡ (after_arrive job link).0 = grind arith in e) stays
    | inr live ↦ elim (cases_Bool (nat_le SLOTS (unsent link))) [
      | inl full ↦ subst (Moved reply_to F link []) (let e : link ≡ (after_arrive job link).0 = grind arith in e) stays
      | inr room ↦ subst (Moved reply_to F link []) (let e : record link { arrived = link.arrived ++ job ∷ [] } ≡ (after_arrive job link).0 = grind arith in e) (arrives job live)
    ]
  ]

  by_finish : (place : ℕ) (link : Connection Job Reply) → ((after_finish place link).1 ≡ outcome.Finished → F place) → Moved reply_to F link [] (after_finish place link).0
  by_finish place link tells = elim (cases_Bool link.closed) [
    | inl shut ↦ subst (Moved reply_to F link []) (let e : link ≡ (after_finish place link).0 = grind arith in e) stays
    | inr live ↦ subst (Moved reply_to F link []) (let e : record link { finished = insert link.finished place } ≡ (after_finish place link).0 = grind arith in e) (finishes place live (tells (grind arith)))
  ]

  by_close : (link : Connection Job Reply) → Moved reply_to F link [] (after_close link).0
  by_close link = elim (cases_Bool link.closed) [
    | inl shut ↦ subst (Moved reply_to F link []) (let e : link ≡ (after_close link).0 = grind arith in e) stays
    | inr live ↦ subst (Moved reply_to F link []) (let e : record link { closed = true } ≡ (after_close link).0 = grind arith in e) closes
  ]

  -- a step of one connection: what it makes of it, and its outcome
  abbrev Turn : Connection Job Reply → Connection Job Reply × Outcome → Type 0
  Turn link turn = Moved reply_to F link (sent_by turn.1) turn.0

  by_send_job : (link : Connection Job Reply) (job : Option Job) → link.closed ≡ false → slice_get link.arrived (length link.sent) ≡ job → contains link.finished (length link.sent) ≡ true → Turn link (after_reply reply_to link job)
  by_send_job link None live found finished = stays
  by_send_job link (Some job) live found finished = sends job live found finished

  by_send : (link : Connection Job Reply) → Turn link (after_send reply_to link)
  by_send link = elim (cases_Bool link.closed) [
    | inl shut ↦ subst (Turn link) (let e : ◌≡◌ {A = Connection Job Reply × Outcome} (link, outcome.Ended) (after_send reply_to link) = grind arith in e) stays
    | inr live ↦ elim (cases_Bool (contains link.finished (length link.sent))) [
      | inl finished ↦
          subst (Turn link)
          (let e : after_reply reply_to link (slice_get link.arrived (length link.sent)) ≡ after_send reply_to link = grind arith in e)
          (by_send_job link (slice_get link.arrived (length link.sent)) live refl finished)
      | inr unfinished ↦ subst (Turn link) (let e : ◌≡◌ {A = Connection Job Reply × Outcome} (link, outcome.Waiting) (after_send reply_to link) = grind arith in e) stays
    ]
  ]

  module _ (state : State Job Reply) (number : ℕ) (link : Connection Job Reply) (known : slice_get state.connections number ≡ Some link) where
    -- a connection that is put in the place of another, from which it has moved
    moved_by_put : (here : ℕ) (old after : Connection Job Reply) → slice_get state.connections here ≡ Some old → (here ≡ number → Moved reply_to F old [] after)
        → (now : Connection Job Reply) × (slice_get (set state.connections here after) number ≡ Some now) × Moved reply_to F link [] now
    moved_by_put here old after at moved =
        put state.connections here number old after link (Moved reply_to F link []) at known
        (λ is. subst (λ from. Moved reply_to F from [] after) (same_Some _ _ (sym at ∙ ap (slice_get state.connections) is ∙ known)) (moved is))
        stays

    by_on_connection : (here : ℕ) (found : Option (Connection Job Reply)) (act : Connection Job Reply → Connection Job Reply × Outcome) → slice_get state.connections here ≡ found → ((from : Connection Job Reply) → Moved reply_to F from [] (act from).0)
        → (now : Connection Job Reply) × (slice_get (found_connection state here found act).0.connections number ≡ Some now) × Moved reply_to F link [] now
    by_on_connection here None act at moves = (link, known, stays)
    by_on_connection here (Some old) act at moves = moved_by_put here old (act old).0 at (λ _. moves old)

    by_claim : (worker : ℕ) (held : Option (Option Assignment)) (task : Assignment) (found : Option (Connection Job Reply)) → slice_get state.connections task.connection ≡ found
        → (now : Connection Job Reply) × (slice_get (found_claim state worker held task found).0.connections number ≡ Some now) × Moved reply_to F link [] now
    by_claim worker None task found at = (link, known, stays)
    by_claim worker (Some held) task None at = (link, known, stays)
    by_claim worker (Some (Some held)) task (Some old) at = (link, known, stays)
    by_claim worker (Some None) task (Some old) at =
        elim (is_claimable old task.place) as (λ claimable. (now : Connection Job Reply) × (slice_get (if◌then◌else◌ {A = State Job Reply × Outcome} claimable (record { connections = set state.connections task.connection (after_claim task.place old); workers = set state.workers worker (Some task) }, outcome.Claimed) (state, outcome.Taken)).0.connections number ≡ Some now) × Moved reply_to F link [] now) [
          | true ↦ moved_by_put task.connection old (after_claim task.place old) at (λ _. claims task.place)
          | false ↦ (link, known, stays)
        ]

    by_finish_task : (worker : ℕ) (task : Assignment) (found : Option (Connection Job Reply)) → slice_get state.connections task.connection ≡ found → (task.connection ≡ number → (found_task state worker task found).1 ≡ outcome.Finished → F task.place)
        → (now : Connection Job Reply) × (slice_get (found_task state worker task found).0.connections number ≡ Some now) × Moved reply_to F link [] now
    by_finish_task worker task None at tells = (link, known, stays)
    by_finish_task worker task (Some old) at tells = moved_by_put task.connection old (after_finish task.place old).0 at (λ is. by_finish task.place old (tells is))

    by_finish_by : (worker : ℕ) (held : Option (Option Assignment)) → ((task : Assignment) → held ≡ Some (Some task) → task.connection ≡ number → (found_finish state worker held).1 ≡ outcome.Finished → F task.place) → (now : Connection Job Reply) × (slice_get (found_finish state worker held).0.connections number ≡ Some now) × Moved reply_to F link [] now
    by_finish_by worker None tells = (link, known, stays)
    by_finish_by worker (Some None) tells = (link, known, stays)
    by_finish_by worker (Some (Some task)) tells = by_finish_task worker task (slice_get state.connections task.connection) refl (tells task refl)

    -- what a send sends of this connection
    by_send_on : (here : ℕ) (found : Option (Connection Job Reply)) → slice_get state.connections here ≡ found
        → (now : Connection Job Reply) × (slice_get (found_connection state here found (after_send reply_to)).0.connections number ≡ Some now) × Moved reply_to F link (if here == number then sent_by (found_connection state here found (after_send reply_to)).1 else []) now
    by_send_on here None at = (link, known, elim (here == number) as (λ same. Moved reply_to F link (if same then [] else []) link) [ true ↦ stays | false ↦ stays ])
    by_send_on here (Some old) at = elim (eqb_tells here number) [
      | inl is ↦
          let same : old ≡ link = same_Some _ _ (sym at ∙ ap (slice_get state.connections) is.1 ∙ known) in (
            (after_send reply_to old).0,
            ap (slice_get (set state.connections here (after_send reply_to old).0)) (sym is.1) ∙ slice_get-set_same state.connections here (after_send reply_to old).0 (slice_get_within state.connections here old at),
            rw is.0 (subst (λ from. Moved reply_to F from (sent_by (after_send reply_to old).1) (after_send reply_to old).0) same (by_send old)),
          )
      | inr is ↦ (link, slice_get-set_other state.connections here (after_send reply_to old).0 number (λ e. is.1 (sym e)) ∙ known, rw is.0 stays)
    ]

-- the event finished this place of the connection, which the worker had claimed
pub record Finishes {Which Job Reply : Type 0} (reply_to : Job → Reply) (state : State Job Reply) (event : Event Which Job Reply) (number place : ℕ) : Type 0 where
  pub worker : ℕ
  pub event_is : event ≡ Finish worker
  pub outcome_is : (step reply_to state event).1 ≡ outcome.Finished
  pub task_is : slice_get state.workers worker ≡ Some (Some (record { connection = number; place = place }))

module _ {Which Job Reply : Type 0} (reply_to : Job → Reply) (state : State Job Reply) (number : ℕ) (link : Connection Job Reply) (known : slice_get state.connections number ≡ Some link) where
  -- after a step the connection is there, and has moved in one of the ways
  pub by_step : (event : Event Which Job Reply)
      → (now : Connection Job Reply) × (slice_get (step reply_to state event).0.connections number ≡ Some now) × Moved reply_to (Finishes reply_to state event number) link (place_of number event (step reply_to state event).1) now
  by_step (Arrive here job) = by_on_connection reply_to _ state number link known here (slice_get state.connections here) (after_arrive job) refl (by_arrive reply_to _ job)
  by_step (Claim worker here place) = by_claim reply_to _ state number link known worker (slice_get state.workers worker) (record { connection = here; place = place }) (slice_get state.connections here) refl
  by_step (Finish worker) =
      by_finish_by reply_to (Finishes reply_to state (Finish worker) number) state number link known worker (slice_get state.workers worker)
      (λ task held at is. record { worker = worker; event_is = refl; outcome_is = is; task_is = held ∙ ap (λ here. Some (Some (record { connection = here; place = task.place }))) at })
  by_step (Send here) = by_send_on reply_to _ state number link known here (slice_get state.connections here) refl
  by_step (Close here) = by_on_connection reply_to _ state number link known here (slice_get state.connections here) after_close refl (by_close reply_to _)
