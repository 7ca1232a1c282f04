-- The books of a daemon's workers.
use Rattle.std.specs.Prelude.{◌≡◌, ℕ, Option, Some, None, length}
use Rattle.mac_decide.specs.declared.job.Job.{Job}
use Rattle.mac_decide.specs.declared.macaroons.Macaroons.{Macaroons}
use Rattle.mac_pool.specs.Pool.{IsFinished, Slots}
use Rattle.mac_pool.specs.declared.pool.Finished.{Finished}
use Rattle.mac_wire.specs.declared.reply.Reply.{Reply}

-- So many workers have ended, and each of them answered every job that it claimed, once, in the order of
-- its claims. What was put into the line is, each job as often, what they claimed together with what the
-- line still held; and the tally counts that.
pub record AreBooks (count : ℕ) (books : Finished Macaroons Job Reply) : Type 0 where
  pub count_is : length books.workers ≡ count
  pub pool : Slots Job
  pub finished : IsFinished pool books.workers books.tally

-- the same of a daemon whose workers have ended
abbrev pub HaveWorked : ℕ → Option (Finished Macaroons Job Reply) → Type 0
HaveWorked count None = ⊥
HaveWorked count (Some books) = AreBooks count books
