-- The rule of the queue: what all passes put is what they claimed together with what the array
-- holds.
use Rattle.std.specs.Prelude.{◌≡◌, ℕ, ◌+◌, ◌*◌, ◌≤◌, List, [], length}
use Rattle.std.specs.Arc.{arc_value}
use Rattle.std.specs.List.{sum_by}
use mathlib.Core.Option.{some}
use lib.ListN.{get_elem?}
use Rattle.mac_queue.specs.Mail.{Mail}
use Rattle.mac_queue.specs.declared.queue.account.Account.{Account}
use Rattle.mac_queue.specs.declared.queue.TheConstants.{PASSES, PUTS_MAX}
use Rattle.mac_queue.specs.declared.ticket.Ticket.{Ticket}

-- a ticket as its place and its job, with the mailbox for its answer
abbrev pub entry_of : {S Job Reply : Type 0} → Ticket S Job Reply → Mail × (ℕ × Job)
entry_of ticket = (arc_value ticket.mail, (ticket.place, ticket.job))

module _ {Job : Type 0} where
  abbrev pub account : {Mail : Type 0} → ℕ → List (Mail × (ℕ × Job)) → List (Mail × (ℕ × Job))
      → Account Job Mail
  account parts put claimed = record { parts = parts; put = put; claimed = claimed }

  -- no pass has put more than its parts allow, and one without a part has claimed nothing
  abbrev pub IsWithin : Account Job Mail → Type 0
  IsWithin a = (length a.put ≤ a.parts * PUTS_MAX) × (a.parts ≡ 0 → a.claimed ≡ [])

-- the parts are as many as the passes, and however entries are weighed, what was put weighs as much
-- as what was claimed and what the array holds
pub record IsBalanced {S Job Reply : Type 0} (tickets : List (Ticket S Job Reply))
    (accounts : List (Account Job Mail)) : Type 0 where
  pub parts : sum_by (λ (a : Account Job Mail). a.parts) accounts ≡ PASSES
  pub within : (seat : ℕ) (a : Account Job Mail) → get_elem? accounts seat ≡ some a → IsWithin a
  pub weights : (weight : Mail × (ℕ × Job) → ℕ) →
      sum_by (λ (a : Account Job Mail). sum_by weight a.put) accounts
      ≡ sum_by (λ (a : Account Job Mail). sum_by weight a.claimed) accounts
      + sum_by (λ (ticket : Ticket S Job Reply). weight (entry_of ticket)) tickets

-- however entries are weighed, what this pass put weighs as much as what it claimed and what the
-- array holds
abbrev pub IsAll : {S Job Reply : Type 0} → Account Job Mail → List (Ticket S Job Reply) → Type 0
IsAll {S} {Job} {Reply} a tickets =
    (weight : Mail × (ℕ × Job) → ℕ) →
    sum_by weight a.put
    ≡ sum_by weight a.claimed
    + sum_by (λ (ticket : Ticket S Job Reply). weight (entry_of ticket)) tickets
