-- What was sent is a beginning of the replies to what arrived, and nothing comes after a close.
use Rattle.std.proofs.Common.{◌≡◌, ℕ, inl, inr, true, List, [], ◌∷◌, ◌++◌, length, map, option_map, Some, slice_get, sym, ◌∙◌, ap, refl, subst, arith, append_assoc, append-nil, length-append}
use Rattle.std.proofs.lemmas.Bool.{false≢true, cases_Bool}
use Rattle.std.proofs.lemmas.List.{length-map}
use Rattle.std.proofs.lemmas.Option.{none-some, same_Some, slice_get-map, slice_get_within}
use Rattle.mac_order.specs.declared.event.Outcome.{Outcome}
use Rattle.mac_order.specs.State.{Connection, State}
use Rattle.mac_order.specs.Step.{after_close, on_connection}
use Rattle.mac_order.specs.History.{IsBeginningOf}
use Rattle.mac_order.proofs.Bounded.{no_length}
use Rattle.mac_order.proofs.Put.{slice_get-set_same}
use Rattle.mac_order.proofs.Steps.{on_connection-known}
use Rattle.mac_order.proofs.Moves.{Moved, stays, arrives, claims, finishes, sends, closes}

pub map-push : {Item Other : Type 0} (f : Item → Other) (items : List Item) (item : Item) → map f (items ++ item ∷ []) ≡ map f items ++ f item ∷ []
map-push f [] item = refl
map-push f (first ∷ items) item = ap (λ rest. f first ∷ rest) (map-push f items item)

pub slice_get-seam : {Item : Type 0} (items rest : List Item) → slice_get (items ++ rest) (length items) ≡ slice_get rest 0
slice_get-seam [] [] = refl
slice_get-seam [] (item ∷ rest) = refl
slice_get-seam (first ∷ items) rest = slice_get-seam items rest

-- a beginning, with the next item
longer : {Item : Type 0} (items rest others : List Item) (item : Item) → items ++ rest ≡ others → slice_get others (length items) ≡ Some item → IsBeginningOf (items ++ item ∷ []) others
longer items [] others item is next = absurd (none-some item (sym (slice_get-seam items []) ∙ ap (λ here. slice_get here (length items)) is ∙ next))
longer items (first ∷ rest) others item is next =
    let same : item ≡ first = same_Some _ _ (sym next ∙ ap (λ here. slice_get here (length items)) (sym is) ∙ slice_get-seam items (first ∷ rest)) in
    (rest, append_assoc items (item ∷ []) rest ∙ ap (λ here. items ++ here ∷ rest) same ∙ is)

module _ {Job Reply : Type 0} (reply_to : Job → Reply) where
  -- what was sent is a beginning of the replies to what arrived
  abbrev pub IsAnswered : Connection Job Reply → Type 0
  IsAnswered link = IsBeginningOf link.sent (map reply_to link.arrived)

  pub answered-moved : (F : ℕ → Type 0) (places : List ℕ) (link after : Connection Job Reply) → Moved reply_to F link places after → IsAnswered link → IsAnswered after
  answered-moved F places link after stays answered = answered
  answered-moved F places link after (arrives job live) answered =
      (answered.0 ++ reply_to job ∷ [], sym (append_assoc link.sent answered.0 (reply_to job ∷ [])) ∙ ap (λ replies. replies ++ reply_to job ∷ []) answered.1 ∙ sym (map-push reply_to link.arrived job))
  answered-moved F places link after (claims place) answered = answered
  answered-moved F places link after (finishes place live tells) answered = answered
  answered-moved F places link after (sends job live found finished) answered =
      longer link.sent answered.0 (map reply_to link.arrived) (reply_to job) answered.1 (slice_get-map reply_to link.arrived (length link.sent) ∙ ap (λ here. option_map reply_to here) found)
  answered-moved F places link after closes answered = answered

  -- a closed connection with these lists
  abbrev pub IsClosedWith : List Job → List Reply → Connection Job Reply → Type 0
  IsClosedWith arrived sent link = (link.closed ≡ true) × (link.arrived ≡ arrived) × (link.sent ≡ sent)

  pub closed-moved : (arrived : List Job) (sent : List Reply) (F : ℕ → Type 0) (places : List ℕ) (link after : Connection Job Reply) → Moved reply_to F link places after → IsClosedWith arrived sent link → IsClosedWith arrived sent after
  closed-moved arrived sent F places link after stays shut = shut
  closed-moved arrived sent F places link after (arrives job live) shut = absurd (false≢true (sym live ∙ shut.0))
  closed-moved arrived sent F places link after (claims place) shut = shut
  closed-moved arrived sent F places link after (finishes place live tells) shut = shut
  closed-moved arrived sent F places link after (sends job live found finished) shut = absurd (false≢true (sym live ∙ shut.0))
  closed-moved arrived sent F places link after closes shut = (refl, shut.1, shut.2)

  close-shuts : (link : Connection Job Reply) → IsClosedWith link.arrived link.sent (after_close link).0
  close-shuts link = elim (cases_Bool link.closed) [
    | inl shut ↦ subst (IsClosedWith link.arrived link.sent) (let e : link ≡ (after_close link).0 = grind arith in e) (shut, refl, refl)
    | inr live ↦ subst (IsClosedWith link.arrived link.sent) (let e : record link { closed = true } ≡ (after_close link).0 = grind arith in e) (refl, refl, refl)
  ]

  -- after a close the connection is closed, with the lists that it had
  pub closed-by_close : (state : State Job Reply) (number : ℕ) (link : Connection Job Reply) → slice_get state.connections number ≡ Some link
      → (now : Connection Job Reply) × (slice_get (on_connection state number after_close).0.connections number ≡ Some now) × IsClosedWith link.arrived link.sent now
  closed-by_close state number link known = (
    (after_close link).0,
    ap (λ (pair : State Job Reply × Outcome). slice_get pair.0.connections number) (sym (on_connection-known state number after_close link (after_close link).0 (after_close link).1 known refl))
        ∙ slice_get-set_same state.connections number (after_close link).0 (slice_get_within state.connections number link known),
    close-shuts link,
  )

  -- a beginning as long as the whole is the whole
  pub whole : (link : Connection Job Reply) → IsAnswered link → length link.sent ≡ length link.arrived → link.sent ≡ map reply_to link.arrived
  whole link answered same =
      let none = no_length answered.0 (omega (arith, ap length answered.1, length-append link.sent answered.0, length-map link.arrived reply_to)) in
      sym (append-nil link.sent) ∙ ap (λ rest. link.sent ++ rest) (sym none) ∙ answered.1
