-- Connections that get desks of a pool, and bring them home.
use Rattle.std.specs.Prelude.{◌≡◌, ℕ, ◌+◌, ◌<◌, List, length, Some, None, slice_get}
use Rattle.std.specs.List.{sum_by}
use Rattle.mac_decide.specs.declared.job.Job.{Job}
use Rattle.mac_decide.specs.declared.macaroons.Macaroons.{Macaroons}
use Rattle.mac_queue.specs.Taking.{fresh_taking}
use Rattle.mac_queue.specs.Desk.{IsSameDesk}
use Rattle.mac_queue.specs.Pass.{Pass}
use Rattle.mac_queue.specs.Putting.{pass_of}
use Rattle.mac_queue.specs.declared.desk.Desk.{Desk}
use Rattle.mac_wire.specs.declared.reply.Reply.{Reply}
use Rattle.mac_pool.specs.Pool.{Slots, at_home}
use Rattle.mac_serve.specs.declared.caller.Caller.{Caller}
use Rattle.mac_serve.specs.Caller.{Devices, Stay, IsAttended, IsAttendedThere}

-- the desk of a stay came from this pool, with one mailbox for both of its ends, where nothing had
-- been taken, and it claimed nothing
pub record IsFrom (pool : Slots Job) (stay : Stay) : Type 0 where
  pub queue_is : stay.given.putter.queue ≡ pool.queue
  pub was_home : slice_get pool.passes stay.given.putter.number
      ≡ Some (Some (pass_of stay.given.putter))
  pub none_taken : stay.given.taker ≡ fresh_taking stay.given.putter.mail
  pub none_claimed : stay.back.putter.claimed ≡ stay.given.putter.claimed

-- The desks of these stays came from the pool, and went home: however passes are weighed, those at
-- home weigh as much as before, but for those of the stays, as they came home.
pub record ComesHome (before after : Slots Job) (stays : List Stay) : Type 0 where
  pub from : (number : ℕ) (stay : Stay) → slice_get stays number ≡ Some stay → IsFrom before stay
  pub weights : (weight : Pass Job → ℕ)
      → sum_by weight (at_home after.passes)
      + sum_by (λ (stay : Stay). weight (pass_of stay.given.putter)) stays
      ≡ sum_by weight (at_home before.passes)
      + sum_by (λ (stay : Stay). weight (pass_of stay.back.putter)) stays

-- as many passes are at home as before, and those that were out are out
pub record IsSamePool (before after : Slots Job) : Type 0 where
  pub same_queue : after.queue ≡ before.queue
  pub same_workers : after.workers ≡ before.workers
  pub same_count : length (at_home after.passes) ≡ length (at_home before.passes)
  pub out : (number : ℕ) → slice_get before.passes number ≡ Some None
      → slice_get after.passes number ≡ Some None

-- who had a desk has it still
abbrev pub KeepsDesk : {In Out K : Type 0} → Caller In Out K → Caller In Out K → Type 0
KeepsDesk before after =
    (given : Desk Macaroons Job Reply) → before.desk ≡ Some given
    → (back : Desk Macaroons Job Reply) × (after.desk ≡ Some back)
    × IsSameDesk given back

-- each of the first ones does
pub record KeepDesks {In Out K : Type 0} (next : ℕ)
    (before after : List (Caller In Out K)) : Type 0 where
  pub none_lost : length after ≡ length before
  pub each : (number : ℕ) (b a : Caller In Out K) → number < next
      → slice_get before number ≡ Some b → slice_get after number ≡ Some a → KeepsDesk b a

-- nobody was served: of each all is as it was, but for the desk
pub record AreUntouched {In Out K : Type 0} (before after : List (Caller In Out K)) : Type 0 where
  pub none_lost : length after ≡ length before
  pub each : (number : ℕ) (b a : Caller In Out K) → slice_get before number ≡ Some b
      → slice_get after number ≡ Some a → a ≡ record b { desk = a.desk }

-- All were attended: those before this number at the desks that they had, and the others at desks of
-- the pool, which came home.
pub record IsSeated {In Out K : Type 0} (d : Devices In Out K) (next : ℕ)
    (before after : List (Caller In Out K)) (pool pool' : Slots Job) : Type 0 where
  pub none_lost : length after ≡ length before
  pub early : (number : ℕ) (b a : Caller In Out K) → number < next
      → slice_get before number ≡ Some b → slice_get after number ≡ Some a
      → IsAttendedThere d b a
  pub stays : List Stay
  pub one_each : next + length stays ≡ length before
  pub late : (number : ℕ) (b a : Caller In Out K) (stay : Stay)
      → slice_get before (next + number) ≡ Some b → slice_get after (next + number) ≡ Some a
      → slice_get stays number ≡ Some stay → IsAttended d b a stay
  pub home : ComesHome pool pool' stays
