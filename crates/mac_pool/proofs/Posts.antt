-- What was posted answers what was claimed.
use Rattle.std.proofs.Common.{◌≡◌, ◌⊎◌, inl, inr, List, [], ◌∷◌, ◌++◌, None, Some, map, sym, ◌∙◌, ap, subst, ⊎_elim, append-nil, append_assoc}
use Rattle.std.specs.Arc.{arc_value}
use Rattle.mac_queue.specs.Mail.{Mail}
use Rattle.mac_queue.specs.Post.{entry_of}
use Rattle.mac_queue.specs.declared.receipt.Delivery.{Delivery}
use Rattle.mac_queue.specs.declared.receipt.Delivery.TheVariants.{Posted, Closed}
use Rattle.mac_queue.specs.Balance.{entry_of as claim_of}
use Rattle.mac_queue.specs.declared.ticket.Ticket.{Ticket}
use Rattle.mac_pool.specs.declared.work.Parcel.{Parcel}
use Rattle.mac_pool.specs.Parcel.{Pairwise, IsAnswerTo, AnswerEach, IsAnswered, IsSent, HasPosted}
use Rattle.mac_pool.proofs.Parcels.{pairwise_append}

module _ {S Job Reply : Type 0} where
  pub posted_none : (book : List (Delivery S Job Reply)) → HasPosted [] book book
  posted_none book = record { more = []; book_is = sym (append-nil book); sent = tt }

  -- one parcel more was delivered
  pub posted_one : (sent : List (Parcel S Job Reply)) (parcel : Parcel S Job Reply) (delivery : Delivery S Job Reply) (book mid book' : List (Delivery S Job Reply))
      → HasPosted sent book mid → IsSent parcel delivery → book' ≡ mid ++ delivery ∷ [] → HasPosted (sent ++ parcel ∷ []) book book'
  posted_one sent parcel delivery book mid book' was one is = record {
    more = was.more ++ delivery ∷ [];
    book_is = is ∙ ap (λ (l : List (Delivery S Job Reply)). l ++ delivery ∷ []) was.book_is ∙ append_assoc book was.more (delivery ∷ []);
    sent = pairwise_append (λ (p : Parcel S Job Reply) (d : Delivery S Job Reply). IsSent p d) sent (parcel ∷ []) was.more (delivery ∷ []) was.sent (one, tt);
  }

  -- a parcel moves from those that are left to those that are sent
  pub parcel_done : (done left rest parcels : List (Parcel S Job Reply)) (parcel : Parcel S Job Reply) → left ≡ parcel ∷ rest → done ++ left ≡ parcels → (done ++ parcel ∷ []) ++ rest ≡ parcels
  parcel_done done left rest parcels parcel split was = append_assoc done (parcel ∷ []) rest ∙ subst (λ (l : List (Parcel S Job Reply)). done ++ l ≡ parcels) split was

  -- a ticket's parcel that was delivered answers the claim
  answered_one : (ticket : Ticket S Job Reply) (parcel : Parcel S Job Reply) (delivery : Delivery S Job Reply) → IsAnswerTo ticket parcel → IsSent parcel delivery → IsAnswered (claim_of ticket) delivery
  answered_one ticket parcel (Posted receipt) to is =
      let mail : arc_value parcel.mail ≡ arc_value ticket.mail = ap (λ m. arc_value m) to.0 in
      let there = is ∙ ap (λ (m : Mail). (m, entry_of parcel.post ∷ [])) mail in
      ⊎_elim (λ (some : entry_of parcel.post ≡ (ticket.place, Some ticket.job)). inl (there ∙ ap (λ e. (arc_value ticket.mail, e ∷ [])) some))
      (λ (none : entry_of parcel.post ≡ (ticket.place, None)). inr (there ∙ ap (λ e. (arc_value ticket.mail, e ∷ [])) none)) to.1
  answered_one ticket parcel (Closed closed) to is =
      let mail : arc_value parcel.mail ≡ arc_value ticket.mail = ap (λ m. arc_value m) to.0 in
      is ∙ ap (λ (m : Mail). m.closing) mail

  pub answered_all : (tickets : List (Ticket S Job Reply)) (parcels : List (Parcel S Job Reply)) (deliveries : List (Delivery S Job Reply))
      → AnswerEach tickets parcels → Pairwise IsSent parcels deliveries → Pairwise IsAnswered (map claim_of tickets) deliveries
  answered_all [] [] [] each sent = tt
  answered_all [] [] (d ∷ ds) each sent = absurd sent
  answered_all [] (p ∷ ps) ds each sent = absurd each
  answered_all (t ∷ ts) [] ds each sent = absurd each
  answered_all (t ∷ ts) (p ∷ ps) [] each sent = absurd sent
  answered_all (t ∷ ts) (p ∷ ps) (d ∷ ds) each sent = (answered_one t p d each.0 sent.0, answered_all ts ps ds each.1 sent.1)
