-- A request that a loop must not answer, from the loop to a worker and back.
use Rattle.std.specs.Prelude.{◌≡◌, ◌⊎◌, ◌+◌, ℕ, Bool, true, false, List, drop, nat_lt}
use Rattle.mac_board.specs.Noticed.{Current}
use Rattle.mac_wire.specs.Frame.{told_length}
use Rattle.mac_wire.specs.declared.arrival.TheConstants.{FRAME_MAX}
use Rattle.mac_wire.specs.declared.reply.Reply.{Reply}
use Rattle.mac_decide.specs.Prepared.{reply_to_job}
use Rattle.mac_decide.specs.declared.job.Job.{Job}
use Rattle.mac_plain.specs.Client.{asked_job}
use Rattle.mac_plain.specs.Dear.{GoesWide}
use Rattle.mac_plain.specs.Goes.{after_reply}
use Rattle.mac_plain.specs.declared.client.Client.{Client}
use Rattle.mac_plain.specs.declared.course.Course.{Course}
use Rattle.mac_plain.specs.declared.course.Course.TheVariants as course
use Rattle.mac_plain.specs.declared.course.Fall.{Fall}
use Rattle.mac_plain.specs.declared.course.Fall.TheVariants as fall

-- A client asked for the answer to this job, under this table and at this moment, and waits for it.
-- Nothing else of the client changes.
pub record IsAsked {P : Type 0} (current : Current) (before after : Client P) (job : Job)
    : Type 0 where
  pub was_wide : before.course ≡ course.Wide
  pub job_is : GoesWide before.session.carried.items → job ≡ asked_job current before
  pub after_is : after ≡ record before { course = course.Awaiting job.basis }

-- a client fell for want of memory, and nothing else of it changed
abbrev pub IsGivenUp : {P : Type 0} → Client P → Client P → Type 0
IsGivenUp before after = after ≡ record before { course = course.Fallen fall.NoMemory }

-- what is carried behind the frame in front, and how the client goes on: where that is too long,
-- nothing behind it is a request
abbrev pub IsPassedSo : Bool → List ℕ → List ℕ → Course → Type 0
IsPassedSo true before after goes = (goes ≡ course.TooLong) × (after ≡ before)
IsPassedSo false before after goes =
    (goes ≡ course.Held) × (after ≡ drop (4 + told_length before) before)

abbrev pub IsPassed : List ℕ → List ℕ → Course → Type 0
IsPassed before after goes =
    IsPassedSo (nat_lt FRAME_MAX (told_length before)) before after goes

-- A reply was put behind what is unsent of a client, and what stood in front of what it carries was
-- let go. Nothing else of the client changes.
pub record IsLetGo {P : Type 0} (reply : Reply) (before after : Client P) : Type 0 where
  pub after_is : after ≡ record before {
    session = record (after_reply before.session reply) { carried = after.session.carried };
    course = after.course;
  }
  pub passed : GoesWide before.session.carried.items
      → IsPassed before.session.carried.items after.session.carried.items after.course

-- the same, or the client fell
abbrev pub PassesWith : {P : Type 0} → Reply → Client P → Client P → Type 0
PassesWith reply before after =
    IsLetGo reply before after
    ⊎ ((why : Fall) × (after ≡ record before { course = course.Fallen why }))

-- The reply to a job was put behind what is unsent of a client, and what it carries was passed; or
-- the client fell.
pub record IsReplied {P : Type 0} (job : Job) (before after : Client P) : Type 0 where
  pub unsent : after.session.unsent
      ≡ (after_reply before.session (reply_to_job job)).unsent
  pub passed : GoesWide before.session.carried.items
      → IsPassed before.session.carried.items after.session.carried.items after.course

abbrev pub Takes : {P : Type 0} → Job → Client P → Client P → Type 0
Takes job before after =
    IsReplied job before after
    ⊎ ((why : Fall) × (after ≡ record before { course = course.Fallen why }))
