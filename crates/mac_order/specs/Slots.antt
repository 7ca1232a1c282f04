-- How a reorder buffer lies in its slots. Serves proofs alone.
use Rattle.std.specs.Prelude.{◌≡◌, ℕ, zero, suc, ◌+◌, ◌%◌, ◌<◌, ◌≤◌, ◌^◌, Bool, true, if◌then◌else◌, List, [], length, Option, None, Some, slice_index_or}
use Rattle.std.specs.FinMap.{FinMap, empty, insert}
use Rattle.std.specs.Ordering.{nat_cmp}
use Rattle.mac_order.specs.Buffer.{Buffer}
use Rattle.mac_order.specs.declared.reorder.TheConstants.{SLOTS}

module _ {Job : Type 0} where
  -- what lies in the slot of a place, which is the place modulo 128
  abbrev pub in_slot : List (Option Job) → ℕ → Option Job
  in_slot slots place = slice_index_or slots (place % SLOTS) None

  abbrev pub put_some : ℕ → Option Job → FinMap nat_cmp Job → FinMap nat_cmp Job
  put_some place None answers = answers
  put_some place (Some answer) answers = insert answers place answer

  -- the answers of this many places from this one on, each in the slot of its place
  unfoldable pub answers_from : ℕ → ℕ → List (Option Job) → FinMap nat_cmp Job
  answers_from zero place slots = empty
  answers_from (suc count) place slots =
      put_some place (in_slot slots place) (answers_from count (place + 1) slots)

  -- the answers that wait: those of the 128 places from the next one on
  unfoldable pub answers_in : ℕ → List (Option Job) → FinMap nat_cmp Job
  answers_in next slots = answers_from SLOTS next slots

  -- the buffer that lies in these slots
  abbrev pub lies_as : ℕ → List Job → List (Option Job) → Bool → Buffer Job
  lies_as next slips slots closed = record {
    next = next;
    slips = slips;
    answers = answers_in next slots;
    closed = closed;
  }

-- how the fields fit together: 128 slots, or none once it is closed; room for 128 slips; each slip
-- has a place
pub record IsLaidOut {Job : Type 0} (next : ℕ) (slips : List Job) (room : ℕ)
    (slots : List (Option Job)) (closed : Bool) : Type 0 where
  pub slips_fit : length slips ≤ SLOTS
  pub room_fits : SLOTS ≤ room
  pub places_fit : next + length slips < 2 ^ 64
  pub slots_fit : length slots ≡ (if closed then 0 else SLOTS)
  pub closed_is_empty : closed ≡ true → slips ≡ []
