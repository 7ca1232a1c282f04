-- The places that a connection sends are counted up, each once.
use Rattle.std.proofs.Common.{◌≡◌, ℕ, suc, ◌+◌, ◌⊎◌, inl, inr, List, [], ◌∷◌, ◌++◌, length, Some, slice_get, ◌∙◌, ap, refl, arith, length-append}
use Rattle.std.specs.List.{range_with_len}
use Rattle.mac_order.specs.declared.event.Event.{Event}
use Rattle.mac_order.specs.State.{Connection, State}
use Rattle.mac_order.specs.Step.{step}
use Rattle.mac_order.specs.Ran.{ran}
use Rattle.mac_order.specs.History.{sent_places}
use Rattle.mac_order.proofs.Moves.{Moved, stays, arrives, claims, finishes, sends, closes, by_step}

module _ {Job Reply : Type 0} (reply_to : Job → Reply) (F : ℕ → Type 0) where
  -- a step sends the next place, or none
  sent-moved : (link now : Connection Job Reply) (places : List ℕ) → Moved reply_to F link places now → ((places ≡ []) × (length now.sent ≡ length link.sent)) ⊎ ((places ≡ length link.sent ∷ []) × (length now.sent ≡ length link.sent + 1))
  sent-moved link now places stays = inl (refl, refl)
  sent-moved link now places (arrives job live) = inl (refl, refl)
  sent-moved link now places (claims place) = inl (refl, refl)
  sent-moved link now places (finishes place live tells) = inl (refl, refl)
  sent-moved link now places (sends job live found finished) = inr (refl, length-append link.sent (reply_to job ∷ []))
  sent-moved link now places closes = inl (refl, refl)

-- what a run sends of a connection: so many places, from the first that was not sent
pub record Sends {Which Job Reply : Type 0} (reply_to : Job → Reply) (state : State Job Reply) (events : List (Event Which Job Reply)) (number : ℕ) (link : Connection Job Reply) : Type 0 where
  pub after : Connection Job Reply
  pub known : slice_get (ran reply_to state events).0.connections number ≡ Some after
  pub count : ℕ
  pub sent : length after.sent ≡ length link.sent + count
  pub places : sent_places number events (ran reply_to state events).1 ≡ range_with_len (length link.sent) count

pub sends_counting : {Which Job Reply : Type 0} (reply_to : Job → Reply) (state : State Job Reply) (events : List (Event Which Job Reply)) (number : ℕ) (link : Connection Job Reply) → slice_get state.connections number ≡ Some link → Sends reply_to state events number link
sends_counting reply_to state [] number link known = record { after = link; known = known; count = 0; sent = omega arith; places = refl }
sends_counting reply_to state (event ∷ events) number link known =
    let (now, there, moved) = by_step reply_to state number link known event in
    let rest = sends_counting reply_to (step reply_to state event).0 events number now there in
    elim (sent-moved reply_to _ link now _ moved) [
      | inl none ↦ record {
        after = rest.after;
        known = rest.known;
        count = rest.count;
        sent = rest.sent ∙ ap (λ here. here + rest.count) none.1;
        places = ap (λ places. places ++ sent_places number events (ran reply_to (step reply_to state event).0 events).1) none.0 ∙ rest.places ∙ ap (λ here. range_with_len here rest.count) none.1;
      }
      | inr one ↦ record {
        after = rest.after;
        known = rest.known;
        count = suc rest.count;
        sent = omega (arith, rest.sent, one.1);
        places =
            ap (λ places. places ++ sent_places number events (ran reply_to (step reply_to state event).0 events).1) one.0
            ∙ ap (λ places. length link.sent ∷ places) (rest.places ∙ ap (λ here. range_with_len here rest.count) one.1);
      }
    ]
