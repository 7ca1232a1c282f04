-- What a buffer's faults say, and what follows where there is none.
use Rattle.std.proofs.Common.{◌≡◌, ℕ, ◌+◌, ◌-◌, ◌<◌, ◌≤◌, ◌^◌, false, length, None, arith}
use Rattle.std.proofs.lemmas.Bool.Decides.{nat_tests}
use Rattle.mac_order.specs.Buffer.{Buffer, open_fault, settle_fault, place_to_open}
use Rattle.mac_order.specs.declared.reorder.TheConstants.{SLOTS}

-- where a job can be opened
pub record IsOpenable {Job : Type 0} (buffer : Buffer Job) : Type 0 where
  pub room : length buffer.slips < SLOTS
  pub live : buffer.closed ≡ false
  pub place : place_to_open buffer < 2 ^ 64 - 1

pub open_fault-none : {Job : Type 0} (buffer : Buffer Job) → place_to_open buffer < 2 ^ 64 → open_fault buffer ≡ None → IsOpenable buffer
open_fault-none buffer fits none = record { room = grind (arith, nat_tests); live = grind (arith, nat_tests); place = grind (arith, nat_tests) }

-- where an answer can be settled
pub record IsSettleable {Job : Type 0} (buffer : Buffer Job) (place : ℕ) : Type 0 where
  pub live : buffer.closed ≡ false
  pub from : buffer.next ≤ place
  pub to : place < buffer.next + SLOTS

pub settle_fault-none : {Job : Type 0} (buffer : Buffer Job) (place : ℕ) → settle_fault buffer place ≡ None → IsSettleable buffer place
settle_fault-none buffer place none = record { live = grind (arith, nat_tests); from = grind (arith, nat_tests); to = grind (arith, nat_tests) }
