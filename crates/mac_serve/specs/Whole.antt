-- The whole of running threads: the workers of a pool, and the connections that they answer.
use Rattle.std.specs.Prelude.{◌≡◌, ℕ, List, length, Some, slice_get}
use Rattle.std.specs.List.{flat_map}
use Rattle.atomic_table.specs.Seated.{TableId}
use Rattle.mac_queue.specs.Lists.{IsSplitInto}
use Rattle.mac_queue.specs.Mail.{Mail}
use Rattle.mac_queue.specs.Taking.{fresh_taking}
use Rattle.mac_queue.specs.Pass.{IsFresh, all_claimed}
use Rattle.mac_queue.specs.Putting.{pass_of}
use Rattle.mac_queue.specs.declared.queue.tally.Tally.{Tally}
use Rattle.mac_pool.specs.declared.work.Worked.{Worked}
use Rattle.mac_pool.specs.Pool.{HaveAnswered, passes_of}
use Rattle.mac_wire.specs.declared.reply.Reply.{Reply}
use Rattle.mac_decide.specs.declared.job.Job.{Job}
use Rattle.mac_decide.specs.declared.macaroons.Macaroons.{Macaroons}
use Rattle.mac_serve.specs.declared.caller.Caller.{Caller}
use Rattle.mac_serve.specs.Caller.{Devices, Stay, IsAttended}

-- the desk of a stay was of this queue, with one mailbox for both of its ends, and nothing had been
-- put or taken there
pub record BeginsFresh (queue : TableId) (stay : Stay) : Type 0 where
  pub pass_is : IsFresh queue stay.given.putter.number (pass_of stay.given.putter)
  pub none_taken : stay.given.taker ≡ fresh_taking stay.given.putter.mail

-- the jobs that were put in all stays, each with its place and the mailbox for its answer
abbrev pub put_in : List Stay → List (Mail × (ℕ × Job))
put_in stays = flat_map (λ (stay : Stay). stay.back.putter.put) stays

-- the jobs that the workers claimed, each with its place and the mailbox for its answer
abbrev pub claimed_by : List (Worked Macaroons Job Reply) → List (Mail × (ℕ × Job))
claimed_by workers = all_claimed (passes_of workers)

-- One run of all threads. So many workers ended, and each of them answered every job that it
-- claimed, once, in the order of its claims. Each connection had a stay of its own at a fresh desk
-- of their queue, and was attended there. What the connections put is, each job as often, what the
-- workers claimed together with what the queue still held; and the tally counts that.
pub record IsWhole {In Out K : Type 0} (d : Devices In Out K) (count : ℕ)
    (before after : List (Caller In Out K)) (workers : List (Worked Macaroons Job Reply))
    (tally : Tally) : Type 0 where
  pub queue : TableId
  pub count_is : length workers ≡ count
  pub answered : HaveAnswered queue workers
  pub stays : List Stay
  pub one_each : length stays ≡ length before
  pub none_lost : length after ≡ length before
  pub fresh : (number : ℕ) (stay : Stay) → slice_get stays number ≡ Some stay
      → BeginsFresh queue stay
  pub attended : (number : ℕ) (b a : Caller In Out K) (stay : Stay)
      → slice_get before number ≡ Some b → slice_get after number ≡ Some a
      → slice_get stays number ≡ Some stay → IsAttended d b a stay
  pub left : List (Mail × (ℕ × Job))
  pub books : IsSplitInto (put_in stays) (claimed_by workers) left
  pub put_is : tally.put ≡ length (put_in stays)
  pub claimed_is : tally.claimed ≡ length (claimed_by workers)
  pub left_is : tally.left ≡ length left
