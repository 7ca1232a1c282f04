-- No place is claimed twice.
use Rattle.std.proofs.Common.{◌≡◌, ℕ, zero, suc, ◌<◌, inl, inr, true, false, List, [], ◌∷◌, set, Option, Some, None, slice_get, sym, ◌∙◌, ap, refl, subst, arith}
use Rattle.std.proofs.lemmas.Bool.{false≢true, cases_Bool}
use Rattle.std.proofs.lemmas.Option.{none-some, same_Some, slice_get_within}
use Rattle.std.specs.FinSet.{FinSet, contains, insert}
use Rattle.std.specs.Ordering.{nat_cmp}
use Rattle.mac_order.specs.declared.event.Assignment.{Assignment}
use Rattle.mac_order.specs.declared.event.Event.{Event}
use Rattle.mac_order.specs.declared.event.Event.TheVariants.{Claim}
use Rattle.mac_order.specs.declared.event.Outcome.TheVariants as outcome
use Rattle.mac_order.specs.State.{Connection, State}
use Rattle.mac_order.specs.Step.{after_claim, is_claimable, step}
use Rattle.mac_order.proofs.Places.{contains-insert_same, contains-insert_other}
use Rattle.mac_order.proofs.Put.{slice_get-set_same}
use Rattle.mac_order.proofs.Runs.{StandsAt}
use Rattle.mac_order.proofs.Steps.{found_claim}
use Rattle.mac_order.proofs.Moves.{Moved, stays, arrives, claims, finishes, sends, closes, by_step}
use Rattle.std.proofs.lemmas.Bool.Decides.{eqb_tells}

-- a place that is claimable was not claimed
claimable-unclaimed : {Job Reply : Type 0} (link : Connection Job Reply) (place : ℕ) → is_claimable link place ≡ true → contains link.claimed place ≡ false
claimable-unclaimed link place is = grind arith

contains-more : (claimed : FinSet nat_cmp) (place other : ℕ) → contains claimed other ≡ true → contains (insert claimed place) other ≡ true
contains-more claimed place other is = elim (eqb_tells other place) [
  | inl same ↦ contains-insert_same claimed place other same.1
  | inr apart ↦ contains-insert_other claimed place other apart.1 ∙ is
]

module _ {Job Reply : Type 0} where
  -- the place of the connection is claimed
  pub record IsClaimed (state : State Job Reply) (number place : ℕ) : Type 0 where
    pub link : Connection Job Reply
    pub known : slice_get state.connections number ≡ Some link
    pub claimed : contains link.claimed place ≡ true

  claimed-moved : (reply_to : Job → Reply) (place : ℕ) (F : ℕ → Type 0) (places : List ℕ) (link after : Connection Job Reply) → Moved reply_to F link places after → contains link.claimed place ≡ true → contains after.claimed place ≡ true
  claimed-moved reply_to place F places link after stays is = is
  claimed-moved reply_to place F places link after (arrives job live) is = is
  claimed-moved reply_to place F places link after (claims other) is = contains-more link.claimed other place is
  claimed-moved reply_to place F places link after (finishes other live tells) is = is
  claimed-moved reply_to place F places link after (sends job live found finished) is = is
  claimed-moved reply_to place F places link after closes is = is

  -- what it says that a claim succeeds
  claim_by-claimed : (state : State Job Reply) (worker : ℕ) (held : Option (Option Assignment)) (task : Assignment) (found : Option (Connection Job Reply)) → (found_claim state worker held task found).1 ≡ outcome.Claimed
      → (link : Connection Job Reply) × (found ≡ Some link) × (is_claimable link task.place ≡ true) × ((found_claim state worker held task found).0.connections ≡ set state.connections task.connection (after_claim task.place link))
  claim_by-claimed state worker None task found is = absurd (let no = is in cc)
  claim_by-claimed state worker (Some held) task None is = absurd (let no = is in cc)
  claim_by-claimed state worker (Some (Some held)) task (Some link) is = absurd (let no = is in cc)
  claim_by-claimed state worker (Some None) task (Some link) is = elim (cases_Bool (is_claimable link task.place)) [
    | inl free ↦ (link, refl, free, grind arith)
    | inr taken ↦ absurd (grind arith)
  ]

  claim_by-taken : (state : State Job Reply) (worker : ℕ) (held : Option (Option Assignment)) (task : Assignment) → IsClaimed state task.connection task.place → (found_claim state worker held task (slice_get state.connections task.connection)).1 ≡ outcome.Claimed → ⊥
  claim_by-taken state worker held task taken is =
      let (link, found, free, after) = claim_by-claimed state worker held task (slice_get state.connections task.connection) is in
      let same = same_Some _ _ (sym taken.known ∙ found) in
      false≢true (sym (claimable-unclaimed link task.place free) ∙ ap (λ (here : Connection Job Reply). contains here.claimed task.place) (sym same) ∙ taken.claimed)

  claim_by-claims : (state : State Job Reply) (worker : ℕ) (held : Option (Option Assignment)) (task : Assignment) → (found_claim state worker held task (slice_get state.connections task.connection)).1 ≡ outcome.Claimed → IsClaimed (found_claim state worker held task (slice_get state.connections task.connection)).0 task.connection task.place
  claim_by-claims state worker held task is =
      let (link, found, free, after) = claim_by-claimed state worker held task (slice_get state.connections task.connection) is in
      record {
        link = after_claim task.place link;
        known = ap (λ connections. slice_get connections task.connection) after ∙ slice_get-set_same state.connections task.connection (after_claim task.place link) (slice_get_within state.connections task.connection link found);
        claimed = contains-insert_same link.claimed task.place task.place refl;
      }

module _ {Which Job Reply : Type 0} (reply_to : Job → Reply) where
  -- a place that is claimed stays so
  stays_claimed : (state : State Job Reply) (event : Event Which Job Reply) (number place : ℕ) → IsClaimed state number place → IsClaimed (step reply_to state event).0 number place
  stays_claimed state event number place taken =
      let (now, there, moved) = by_step reply_to state number taken.link taken.known event in
      record { link = now; known = there; claimed = claimed-moved reply_to place _ _ taken.link now moved taken.claimed }

  -- once a place is claimed, no claim of it succeeds
  never_again : (state : State Job Reply) (events : List (Event Which Job Reply)) (index worker number place : ℕ) → IsClaimed state number place → StandsAt reply_to state events index (Claim worker number place) outcome.Claimed → ⊥
  never_again state [] index worker number place taken stands = none-some _ stands.event_is
  never_again state (event ∷ events) zero worker number place taken stands =
      claim_by-taken state worker (slice_get state.workers worker) (record { connection = number; place = place }) taken
      (ap (λ here. (step reply_to state here).1) (sym (same_Some _ _ stands.event_is)) ∙ same_Some _ _ stands.outcome_is)
  never_again state (event ∷ events) (suc index) worker number place taken stands =
      never_again (step reply_to state event).0 events index worker number place (stays_claimed state event number place taken) (record { event_is = stands.event_is; outcome_is = stands.outcome_is })

  -- of two claims of a place that succeed, neither comes after the other
  pub not_after : (state : State Job Reply) (events : List (Event Which Job Reply)) (index later worker other number place : ℕ) → index < later
      → StandsAt reply_to state events index (Claim worker number place) outcome.Claimed → StandsAt reply_to state events later (Claim other number place) outcome.Claimed → ⊥
  not_after state [] index later worker other number place before first second = none-some _ first.event_is
  not_after state (event ∷ events) index zero worker other number place before first second = omega arith
  not_after state (event ∷ events) zero (suc later) worker other number place before first second =
      let this = same_Some _ _ first.event_is in
      let claimed = ap (λ here. (step reply_to state here).1) (sym this) ∙ same_Some _ _ first.outcome_is in
      never_again (step reply_to state event).0 events later other number place
      (subst (λ here. IsClaimed (step reply_to state here).0 number place) (sym this) (claim_by-claims state worker (slice_get state.workers worker) (record { connection = number; place = place }) claimed))
      (record { event_is = second.event_is; outcome_is = second.outcome_is })
  not_after state (event ∷ events) (suc index) (suc later) worker other number place before first second =
      not_after (step reply_to state event).0 events index later worker other number place (omega arith) (record { event_is = first.event_is; outcome_is = first.outcome_is }) (record { event_is = second.event_is; outcome_is = second.outcome_is })
