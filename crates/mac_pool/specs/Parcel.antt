-- What a worker makes of tickets.
use Rattle.std.specs.Prelude.{◌≡◌, ◌⊎◌, ⊤, ℕ, List, [], ◌∷◌, ◌++◌, None, Some}
use Rattle.std.specs.Arc.{arc_value}
use Rattle.mac_queue.specs.Mail.{Mail}
use Rattle.mac_queue.specs.Post.{entry_of, IsDelivered}
use Rattle.mac_queue.specs.declared.receipt.Delivery.{Delivery}
use Rattle.mac_queue.specs.declared.receipt.Delivery.TheVariants.{Posted, Closed}
use Rattle.mac_queue.specs.declared.ticket.Ticket.{Ticket}
use Rattle.mac_pool.specs.declared.work.Label.{Label}
use Rattle.mac_pool.specs.declared.work.Parcel.{Parcel}

-- the lists are of one length, and each two items at one place are so related
abbrev pub Pairwise : {A B : Type 0} → (A → B → Type 0) → List A → List B → Type 0
Pairwise R [] [] = ⊤
Pairwise R [] (y ∷ ys) = ⊥
Pairwise R (x ∷ xs) [] = ⊥
Pairwise R (x ∷ xs) (y ∷ ys) = R x y × Pairwise R xs ys

module _ {S Job Reply : Type 0} where
  -- the parcel goes to the ticket's mailbox, with the answer to the ticket's job at its place or
  -- with the word that memory ran out for it
  abbrev pub IsAnswerTo : Ticket S Job Reply → Parcel S Job Reply → Type 0
  IsAnswerTo ticket parcel =
      (parcel.mail ≡ ticket.mail)
      × ((entry_of {S = S} {Job = Job} {Reply = Reply} parcel.post
      ≡ (ticket.place, Some ticket.job))
      ⊎ (entry_of {S = S} {Job = Job} {Reply = Reply} parcel.post ≡ (ticket.place, None)))

  -- each ticket, in order, has its parcel
  abbrev pub AnswerEach : List (Ticket S Job Reply) → List (Parcel S Job Reply) → Type 0
  AnswerEach tickets parcels = Pairwise IsAnswerTo tickets parcels

  -- the claim was answered: into its mailbox went the answer to its job at its place, or the word
  -- that memory ran out there; or its mailbox was found closed
  abbrev pub IsAnswered : Mail × (ℕ × Job) → Delivery S Job Reply → Type 0
  IsAnswered claim (Posted receipt) =
      (receipt ≡ (claim.0, (claim.1.0, Some claim.1.1) ∷ []))
      ⊎ (receipt ≡ (claim.0, (claim.1.0, None) ∷ []))
  IsAnswered claim (Closed closed) = closed ≡ claim.0.closing

  -- the parcel was delivered
  abbrev pub IsSent : Parcel S Job Reply → Delivery S Job Reply → Type 0
  IsSent parcel delivery = IsDelivered (arc_value parcel.mail) parcel.post delivery

  -- the tickets that were taken apart into these labels and jobs
  abbrev pub joined : List (Label S Job Reply) → List Job → List (Ticket S Job Reply)
  joined [] jobs = []
  joined (label ∷ labels) [] = []
  joined (label ∷ labels) (job ∷ jobs) =
      record { place = label.place; job = job; mail = label.mail } ∷ joined labels jobs

-- the parcels were delivered, in order, and the book tells what became of each
pub record HasPosted {S Job Reply : Type 0} (parcels : List (Parcel S Job Reply))
    (book book' : List (Delivery S Job Reply)) : Type 0 where
  pub more : List (Delivery S Job Reply)
  pub book_is : book' ≡ book ++ more
  pub sent : Pairwise IsSent parcels more
