-- A place is sent only after its finish.
use Rattle.std.proofs.Common.{◌≡◌, ℕ, zero, suc, ◌<◌, ◌⊎◌, inl, inr, true, false, if◌then◌else◌, List, [], ◌∷◌, length, take, Option, Some, None, slice_get, sym, ◌∙◌, ap, refl, subst, arith}
use Rattle.std.proofs.lemmas.Bool.{false≢true, cases_Bool}
use Rattle.std.proofs.lemmas.Bool.Decides.{eqb_tells}
use Rattle.std.proofs.lemmas.Option.{none-some, same_Some, slice_get_within}
use Rattle.std.specs.FinSet.{contains}
use Rattle.mac_order.specs.declared.event.Event.{Event}
use Rattle.mac_order.specs.declared.event.Event.TheVariants.{Finish, Send}
use Rattle.mac_order.specs.declared.event.Outcome.TheVariants as outcome
use Rattle.mac_order.specs.State.{Connection, State}
use Rattle.mac_order.specs.Step.{step, after_send}
use Rattle.mac_order.specs.History.{place_of}
use Rattle.mac_order.specs.Ran.{ran}
use Rattle.mac_order.proofs.Places.{contains-insert_other}
use Rattle.mac_order.proofs.Kept.{length-step}
use Rattle.mac_order.proofs.Runs.{StandsAt}
use Rattle.mac_order.proofs.Steps.{found_connection}
use Rattle.mac_order.proofs.Moves.{Moved, stays, arrives, claims, finishes, sends, closes, Finishes, by_step}

module _ {Job Reply : Type 0} (reply_to : Job → Reply) (F : ℕ → Type 0) where
  -- a place that is finished after a step was finished before it, or by it
  finished-moved : (link now : Connection Job Reply) (places : List ℕ) (place : ℕ) → Moved reply_to F link places now → contains now.finished place ≡ true → (contains link.finished place ≡ true) ⊎ F place
  finished-moved link now places place stays is = inl is
  finished-moved link now places place (arrives job live) is = inl is
  finished-moved link now places place (claims other) is = inl is
  finished-moved link now places place (finishes other live tells) is = elim (eqb_tells place other) [
    | inl same ↦ inr (subst F (sym same.1) tells)
    | inr apart ↦ inl (sym (contains-insert_other link.finished other place apart.1) ∙ is)
  ]
  finished-moved link now places place (sends job live found finished) is = inl is
  finished-moved link now places place closes is = inl is

  -- a place that is sent is finished
  sent-finished : (link now : Connection Job Reply) (place : ℕ) → Moved reply_to F link (place ∷ []) now → contains link.finished place ≡ true
  sent-finished link now place (sends job live found finished) = finished

own_place : (Which Job Reply : Type 0) (number place : ℕ) → place_of {Which = Which} {Job = Job} {Reply = Reply} number (Send number) (outcome.Sent place) ≡ place ∷ []
own_place Which Job Reply number place = elim (eqb_tells number number) [
  | inl is ↦ ap (λ same. if same then place ∷ [] else []) is.0
  | inr is ↦ absurd (is.1 refl)
]

found_sent : {Job Reply : Type 0} (reply_to : Job → Reply) (state : State Job Reply) (number place : ℕ) (found : Option (Connection Job Reply)) → slice_get state.connections number ≡ found → (found_connection state number found (after_send reply_to)).1 ≡ outcome.Sent place → number < length state.connections
found_sent reply_to state number place None at is = absurd (let no = is in cc)
found_sent reply_to state number place (Some link) at is = slice_get_within state.connections number link at

module _ {Which Job Reply : Type 0} (reply_to : Job → Reply) where
  -- the finish of a place, among the events of a run from the state
  pub record FinishedAt (state : State Job Reply) (events : List (Event Which Job Reply)) (number place index : ℕ) : Type 0 where
    pub worker : ℕ
    pub stands : StandsAt reply_to state events index (Finish worker) outcome.Finished
    pub task_is : slice_get (ran reply_to state (take index events)).0.workers worker ≡ Some (Some (record { connection = number; place = place }))

  first : (state : State Job Reply) (event : Event Which Job Reply) (events : List (Event Which Job Reply)) (number place : ℕ) → Finishes reply_to state event number place → FinishedAt state (event ∷ events) number place 0
  first state event events number place tells = record {
    worker = tells.worker;
    stands = record { event_is = ap (λ here. Some here) tells.event_is; outcome_is = ap (λ here. Some here) tells.outcome_is };
    task_is = tells.task_is;
  }

  later : (state : State Job Reply) (event : Event Which Job Reply) (events : List (Event Which Job Reply)) (number place index : ℕ) → FinishedAt (step reply_to state event).0 events number place index → FinishedAt state (event ∷ events) number place (suc index)
  later state event events number place index at = record {
    worker = at.worker;
    stands = record { event_is = at.stands.event_is; outcome_is = at.stands.outcome_is };
    task_is = at.task_is;
  }

  -- a place that a run sends, and that was not finished before the run, was finished earlier in it
  pub sends_after : (state : State Job Reply) (events : List (Event Which Job Reply)) (index number place : ℕ) (link : Connection Job Reply) → slice_get state.connections number ≡ Some link → contains link.finished place ≡ false
      → StandsAt reply_to state events index (Send number) (outcome.Sent place) → (earlier : ℕ) × (earlier < index) × FinishedAt state events number place earlier
  sends_after state [] index number place link known open' stands = absurd (none-some _ stands.event_is)
  sends_after state (event ∷ events) zero number place link known open' stands =
      let (now, there, moved) = by_step reply_to state number link known event in
      let places : place_of number event (step reply_to state event).1 ≡ place ∷ [] =
      (λ i. place_of number (same_Some _ _ stands.event_is i) (same_Some _ _ stands.outcome_is i)) ∙ own_place Which Job Reply number place in
      absurd (false≢true (sym open' ∙ sent-finished reply_to _ link now place (subst (λ here. Moved reply_to (Finishes reply_to state event number) link here now) places moved)))
  sends_after state (event ∷ events) (suc index) number place link known open' stands =
      let (now, there, moved) = by_step reply_to state number link known event in
      elim (cases_Bool (contains now.finished place)) [
        | inl is ↦ elim (finished-moved reply_to _ link now _ place moved is) [
          | inl was ↦ absurd (false≢true (sym open' ∙ was))
          | inr tells ↦ (0, omega arith, first state event events number place tells)
        ]
        | inr is ↦
            let (earlier, before, at) = sends_after (step reply_to state event).0 events index number place now there is (record { event_is = stands.event_is; outcome_is = stands.outcome_is }) in
            (suc earlier, omega arith, later state event events number place earlier at)
      ]

  -- only a connection that is there sends
  pub sends_known : (state : State Job Reply) (events : List (Event Which Job Reply)) (index number place : ℕ) → StandsAt reply_to state events index (Send number) (outcome.Sent place) → number < length state.connections
  sends_known state [] index number place stands = absurd (none-some _ stands.event_is)
  sends_known state (event ∷ events) zero number place stands =
      found_sent reply_to state number place (slice_get state.connections number) refl (ap (λ here. (step reply_to state here).1) (sym (same_Some _ _ stands.event_is)) ∙ same_Some _ _ stands.outcome_is)
  sends_known state (event ∷ events) (suc index) number place stands =
      omega (arith, sends_known (step reply_to state event).0 events index number place (record { event_is = stands.event_is; outcome_is = stands.outcome_is }), length-step state reply_to event)
