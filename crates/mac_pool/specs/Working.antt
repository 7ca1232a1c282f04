-- What a worker did with the tickets that it claimed.
use Rattle.std.specs.Prelude.{◌≡◌, ℕ, List, ◌∷◌, ◌++◌, length, map}
use Rattle.mac_queue.specs.declared.receipt.Delivery.{Delivery}
use Rattle.mac_queue.specs.Balance.{entry_of}
use Rattle.mac_queue.specs.Pass.{Pass, HasClaimed}
use Rattle.mac_queue.specs.declared.ticket.Ticket.{Ticket}
use Rattle.mac_pool.specs.Parcel.{Pairwise, IsAnswered}

-- the pass once it has claimed these tickets
abbrev pub with_tickets : {S Job Reply : Type 0} → Pass Job → List (Ticket S Job Reply) → Pass Job
with_tickets pass tickets = record pass { claimed = pass.claimed ++ map entry_of tickets }

-- A turn that began with this ticket claimed so many others. Each was answered once, in the order
-- of the claims.
pub record HasTurned {S Job Reply : Type 0} (ticket : Ticket S Job Reply) (before : Pass Job)
    (count : ℕ) (after : Pass Job) (book book' : List (Delivery S Job Reply)) : Type 0 where
  pub others : List (Ticket S Job Reply)
  pub count_is : length others ≡ count
  pub after_is : after ≡ with_tickets before others
  pub more : List (Delivery S Job Reply)
  pub book_is : book' ≡ book ++ more
  pub answered : Pairwise IsAnswered (map entry_of (ticket ∷ others)) more

-- A worker claimed so many tickets and put none. Each was answered once, in the order of the
-- claims.
pub record HasWorked {S Job Reply : Type 0} (before : Pass Job) (count : ℕ) (after : Pass Job)
    (deliveries : List (Delivery S Job Reply)) : Type 0 where
  pub claims : HasClaimed before count after
  pub answered : Pairwise IsAnswered claims.more deliveries
