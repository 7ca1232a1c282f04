-- A reorder buffer, as contracts see it, and what each call makes of it. All of it is this
-- project's own.
use Rattle.std.specs.Prelude.{◌≡◌, ℕ, ◌+◌, ◌-◌, ◌<◌, ◌≤◌, ◌^◌, Bool, true, false, ◌==◌, if◌then◌else◌, nat_lt, nat_le, List, [], ◌∷◌, ◌++◌, length, Option, None, Some, IsSome}
use Rattle.std.specs.FinMap.{FinMap, empty, get, contains_key, insert, remove}
use Rattle.std.specs.Ordering.{nat_cmp}
use Rattle.mac_order.specs.declared.reorder.TheConstants.{SLOTS}
use Rattle.mac_order.specs.declared.fault.OpenFault.{OpenFault}
use Rattle.mac_order.specs.declared.fault.OpenFault.TheVariants.{Full, Closed as Shut, Last}
use Rattle.mac_order.specs.declared.fault.SettleFault.{SettleFault}
use Rattle.mac_order.specs.declared.fault.SettleFault.TheVariants.{Old, TooFar, Twice, Closed as Ended}
use Rattle.mac_order.specs.declared.next.Next.{Next}
use Rattle.mac_order.specs.declared.next.Next.TheVariants.{Reply, Stranger, Closed, Waiting}

-- the place that is sent next, the jobs that are open from there on, the answers that wait by their
-- places, and whether it is closed
pub record Buffer (Job : Type 0) : Type 0 where
  pub next : ℕ
  pub slips : List Job
  pub answers : FinMap nat_cmp Job
  pub closed : Bool

module _ {Job : Type 0} where
  -- an open buffer that has taken nothing
  abbrev pub fresh_buffer : Buffer Job
  fresh_buffer = record { next = 0; slips = []; answers = empty; closed = false }

  -- a buffer once it is closed: what waited is dropped
  abbrev pub closed_off : Buffer Job → Buffer Job
  closed_off buffer = record { next = buffer.next; slips = []; answers = empty; closed = true }

  -- the place of the next job to be opened
  abbrev pub place_to_open : Buffer Job → ℕ
  place_to_open buffer = buffer.next + length buffer.slips

  -- the first reason, if any, why no job can be opened
  abbrev pub open_fault : Buffer Job → Option OpenFault
  open_fault buffer =
      if nat_le SLOTS (length buffer.slips) then Some Full
      else if buffer.closed then Some Shut
      else if place_to_open buffer == 2 ^ 64 - 1 then Some Last
      else None

  -- the buffer once the job is opened
  abbrev pub opened : Buffer Job → Job → Buffer Job
  opened buffer job = record buffer { slips = buffer.slips ++ job ∷ [] }

  -- the first reason, if any, why no answer can be settled at the place
  abbrev pub settle_fault : Buffer Job → ℕ → Option SettleFault
  settle_fault buffer place =
      if buffer.closed then Some Ended
      else if nat_lt place buffer.next then Some Old
      else if nat_le (buffer.next + SLOTS) place then Some TooFar
      else if contains_key buffer.answers place then Some Twice
      else None

  -- the buffer once the answer, which is seen as its job, is settled at the place
  abbrev pub settled : Buffer Job → ℕ → Job → Buffer Job
  settled buffer place answer = record buffer { answers = insert buffer.answers place answer }

  -- the buffer once its next place is sent, which leaves these slips
  abbrev pub sent_off : Buffer Job → List Job → Buffer Job
  sent_off buffer slips = record {
    next = buffer.next + 1;
    slips = slips;
    answers = remove buffer.answers buffer.next;
    closed = false;
  }

  -- what always holds: at most 128 slips, each with a place; answers wait within 128 places; a
  -- closed buffer has neither
  pub record IsBounded (buffer : Buffer Job) : Type 0 where
    pub slips : length buffer.slips ≤ SLOTS
    pub places : place_to_open buffer < 2 ^ 64
    pub answers : (place : ℕ) → IsSome (get buffer.answers place)
        → (buffer.next ≤ place) × (place < buffer.next + SLOTS)
    pub closed : buffer.closed ≡ true → (buffer.slips ≡ []) × (buffer.answers ≡ empty)

-- what goes out where these slips are open and this answer, if any, is at the next place
abbrev pub meeting : {Which Job Reply : Type 0} → (Job → Job → Bool) → (Job → Reply) → Buffer Job
    → List Job → Option Job → Next Which Job Reply × Buffer Job
meeting same reply_to buffer [] answer = (Waiting, buffer)
meeting same reply_to buffer (slip ∷ slips) None = (Waiting, buffer)
meeting same reply_to buffer (slip ∷ slips) (Some answer) =
    if same answer slip then (Reply buffer.next (reply_to slip), sent_off buffer slips)
    else (Stranger buffer.next, closed_off buffer)

-- what goes out next, and the buffer after it
abbrev pub next_of : {Which Job Reply : Type 0} → (Job → Job → Bool) → (Job → Reply) → Buffer Job
    → Next Which Job Reply × Buffer Job
next_of same reply_to buffer =
    if buffer.closed then (Closed, buffer)
    else meeting same reply_to buffer buffer.slips (get buffer.answers buffer.next)
