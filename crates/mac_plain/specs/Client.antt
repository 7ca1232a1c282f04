-- A plain connection: how it stands, and what came and went meanwhile.
use Rattle.std.specs.Prelude.{◌≡◌, ℕ, Bool, true, false, IsTrue, List, [], ◌∷◌, ◌++◌, map}
use Rattle.mac_board.specs.Noticed.{Current}
use Rattle.mac_wire.specs.declared.arrival.Arrival.{Arrival}
use Rattle.mac_wire.specs.declared.arrival.Arrival.TheVariants as arrival
use Rattle.mac_wire.specs.declared.reply.Reply.{Reply}
use Rattle.mac_wire.specs.declared.session.Session.{Session}
use Rattle.mac_wire.specs.Frame.{IsUnfinished}
use Rattle.mac_wire.specs.declared.arrival.Ending.TheVariants as ending
use Rattle.mac_wire.specs.Stream.{arrivals_of, version_told, version_or_one}
use Rattle.mac_wire.specs.Reply.{reply_text}
use Rattle.mac_wire.specs.Session.{Stands}
use Rattle.mac_decide.specs.declared.job.Basis.{Basis}
use Rattle.mac_decide.specs.declared.job.Job.{Job}
use Rattle.mac_decide.specs.Prepared.{reply_to_job}
use Rattle.mac_decide.specs.Terms.{Terms}
use Rattle.mac_decide.specs.World.{job_under}
use Rattle.mac_plain.specs.Dear.{AreCheap, GoesWide, front_of}
use Rattle.mac_plain.specs.declared.client.Client.{Client}
use Rattle.mac_plain.specs.declared.course.Course.{Course}
use Rattle.mac_plain.specs.declared.course.Course.TheVariants as course

-- the arrivals of jobs, and the replies to them
abbrev pub arrivals : List Job → List Arrival
arrivals jobs = map (λ (job : Job). job.arrival) jobs

abbrev pub replies : List Job → List Reply
replies jobs = map reply_to_job jobs

-- what the requests of a client are answered under, at this table and this moment
abbrev pub terms_for : {P : Type 0} → Current → Client P → Terms
terms_for current client =
    record { table = current.table; rights = client.rights.value; moment = current.moment }

-- the reply to a payload under its terms
abbrev pub answer_under : Terms → List ℕ → Reply
answer_under terms payload = reply_to_job (job_under terms (arrival.Payload payload))

-- the jobs of payloads under their terms
abbrev pub jobs_of : Terms → List (List ℕ) → List Job
jobs_of terms payloads = map (λ p. job_under terms (arrival.Payload p)) payloads

-- Of these jobs the first ones are answered, the others and what else was read are lost; what was
-- written and what is unsent are together the frames of their replies.
pub record HasFallen (session : Session) (read written : List ℕ) (jobs : List Job) : Type 0 where
  pub told : session.version ≡ version_told read
  pub done : List Job
  pub missed : List Job
  pub are : jobs ≡ done ++ missed
  pub lost : List Arrival
  pub came : (arrivals_of read).arrived ≡ arrivals done ++ lost
  pub went : written ++ session.unsent
      ≡ reply_text (version_or_one session.version) (replies done)

-- The job of what stands in front of what is carried, where one goes wide for that, on this basis.
abbrev pub wide_job : Basis → Session → Job
wide_job basis session = record { arrival = front_of session.carried.items; basis = basis }

-- The last of these jobs is that of what stands in front of what is carried, on this basis, and
-- waits for its answer. The others are answered.
pub record Awaits (basis : Basis) (session : Session) (read written : List ℕ) (jobs : List Job)
    : Type 0 where
  pub done : List Job
  pub are : jobs ≡ done ++ wide_job basis session ∷ []
  pub stands : Stands session read written (arrivals done) (replies done)
  pub wide : GoesWide session.carried.items

-- Of these jobs all are answered, the last of them a frame that is too long: nothing behind it
-- arrives.
pub record EndsTooLong (session : Session) (read written : List ℕ) (jobs : List Job) : Type 0 where
  pub told : session.version ≡ version_told read
  pub came : (arrivals_of read).arrived ≡ arrivals jobs
  pub ends : (arrivals_of read).ending ≡ ending.Oversize
  pub went : written ++ session.unsent
      ≡ reply_text (version_or_one session.version) (replies jobs)

-- How the session of a client stands that goes on so. Less than a whole frame is carried where it
-- is open or has ended, and what one goes wide for where it goes on wide.
abbrev pub StandsSo : Course → Session → (read written : List ℕ) → List Job → Type 0
StandsSo course.Open session read written done =
    Stands session read written (arrivals done) (replies done)
    × IsUnfinished session.carried.items
StandsSo course.Held session read written done =
    Stands session read written (arrivals done) (replies done)
StandsSo course.Wide session read written done =
    Stands session read written (arrivals done) (replies done)
    × GoesWide session.carried.items
StandsSo (course.Awaiting basis) session read written jobs = Awaits basis session read written jobs
StandsSo course.TooLong session read written done = EndsTooLong session read written done
StandsSo (course.Ended why) session read written done =
    Stands session read written (arrivals done) (replies done)
    × IsUnfinished session.carried.items
StandsSo (course.Fallen why) session read written done = HasFallen session read written done

-- A client that goes on so may be answered elsewhere from now on: nothing that was read is lost, and
-- more may come. Who takes it knows its session, and not how it went on.
abbrev pub may_move : Course → Bool
may_move course.Open = true
may_move course.Held = true
may_move course.Wide = true
may_move (course.Awaiting basis) = false
may_move course.TooLong = false
may_move (course.Ended why) = false
may_move (course.Fallen why) = false

-- so much was read and written on a client, and these are the jobs that it has answered
abbrev pub HasAnswered : {P : Type 0} → Client P → (read written : List ℕ) → List Job → Type 0
HasAnswered client read written done = StandsSo client.course client.session read written done

-- a device passed these bytes, where it tells what it passes
abbrev pub Passed : Bool → List ℕ → List ℕ → List ℕ → Type 0
Passed tells before after bytes = IsTrue tells → after ≡ before ++ bytes

-- From the one to the other, these jobs more were answered: whatever was read and written before,
-- with what came and went meanwhile the jobs are those before and these.
pub record Answers {P : Type 0} (tells : Bool) (taken written : P → List ℕ)
    (before after : Client P) (jobs : List Job) : Type 0 where
  pub came : List ℕ
  pub gone : List ℕ
  pub took : Passed tells (taken before.port) (taken after.port) came
  pub wrote : Passed tells (written before.port) (written after.port) gone
  pub goes_on : (read sent : List ℕ) (done : List Job) → HasAnswered before read sent done
      → HasAnswered after (read ++ came) (sent ++ gone) (done ++ jobs)

-- From the one to the other, some requests were answered, none too dear for a loop, each under this
-- table, at this moment and under the client's rights, which stay.
pub record Serves {P : Type 0} (tells : Bool) (taken written : P → List ℕ) (current : Current)
    (before after : Client P) : Type 0 where
  pub rights_kept : after.rights ≡ before.rights
  pub payloads : List (List ℕ)
  pub cheap : AreCheap payloads
  pub answers : Answers tells taken written before after
      (jobs_of (terms_for current before) payloads)

-- The job that is asked of a worker: that of what stands in front of what a client carries, under
-- this table, at this moment and under the client's rights.
abbrev pub asked_job : {P : Type 0} → Current → Client P → Job
asked_job current client =
    job_under (terms_for current client) (front_of client.session.carried.items)

-- a client waits for the answer to this job
abbrev pub IsAwaited : {P : Type 0} → Job → Client P → Type 0
IsAwaited job client = (client.course ≡ course.Awaiting job.basis)
    × (job.arrival ≡ front_of client.session.carried.items)

-- What is promised of so much that was read and written: the first of these jobs are those of what
-- arrived first, in order, and what was written begins the frames of their replies.
pub record IsPromised (read written : List ℕ) (jobs : List Job) : Type 0 where
  pub done : List Job
  pub missed : List Job
  pub are : jobs ≡ done ++ missed
  pub others : List Arrival
  pub came : (arrivals_of read).arrived ≡ arrivals done ++ others
  pub rest : List ℕ
  pub went : written ++ rest ≡ reply_text (arrivals_of read).version (replies done)
