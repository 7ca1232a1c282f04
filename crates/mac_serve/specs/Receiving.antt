-- What the inbound half of a connection takes in.
use Rattle.std.specs.Prelude.{◌≡◌, ◌≢◌, ◌⊎◌, ℕ, ◌+◌, ◌≤◌, Bool, IsTrue, List, [], ◌∷◌, ◌++◌, length, map, take, Option, Some, None, Result, Ok, Err, IfOk, OnOk}
use Rattle.std.specs.declared.alloc.Global.{Global}
use Rattle.std.specs.declared.vec.Vec.{Vec}
use Rattle.mac_order.specs.Ring.{admitted, IsSameIntake}
use Rattle.mac_queue.specs.Mail.{Mail}
use Rattle.mac_queue.specs.Putting.{IsSamePutter}
use Rattle.mac_board.specs.Noticed.{Current, IsCurrent, Noticed, Notices}
use Rattle.mac_wire.specs.declared.arrival.Arrival.{Arrival}
use Rattle.mac_wire.specs.declared.arrival.Ending.{Ending}
use Rattle.mac_wire.specs.declared.arrival.Ending.TheVariants as ending
use Rattle.mac_wire.specs.declared.frame.FrameReader.{FrameReader}
use Rattle.mac_wire.specs.declared.version.Version.{Version}
use Rattle.mac_wire.specs.Stream.{arrivals_of, version_told, version_or_one}
use Rattle.mac_wire.specs.FrameReader.{HasRead, HasEnded, version_of}
use Rattle.mac_decide.specs.declared.job.Job.{Job}
use Rattle.mac_decide.specs.Terms.{Terms}
use Rattle.mac_decide.specs.World.{job_under}
use Rattle.mac_decide.specs.declared.rights.Rights.{Rights}
use Rattle.mac_serve.specs.declared.incoming.InboundFault.{InboundFault}
use Rattle.mac_serve.specs.declared.incoming.InboundFault.TheVariants as fault
use Rattle.mac_serve.specs.declared.inbound.Inbound.{Inbound}

-- a source gave these bytes, where it tells what it gives
abbrev pub Gave : Bool → List ℕ → List ℕ → List ℕ → Type 0
Gave tells before after bytes = IsTrue tells → after ≡ before ++ bytes

-- the reader knows the version that the stream has told
abbrev pub HasTold : FrameReader → List ℕ → Type 0
HasTold reader stream = version_of reader ≡ version_told stream

-- a stream has told its version
abbrev pub IsTold : List ℕ → Type 0
IsTold stream = (version : Version) × (version_told stream ≡ Some version)

-- The next bytes of a stream were read: the arrivals that are whole with them came, or none where
-- nothing was left; where the device failed or its failures can't be counted nothing came, and where
-- memory ran out the bytes are lost. The reader knows the version that the stream has told.
abbrev pub Reads : Bool → List ℕ → List ℕ → List ℕ → List Arrival
    → Result (Option (Vec Arrival Global)) InboundFault → FrameReader → Type 0
Reads tells before after stream handed (Ok (Some more)) reader =
    (bytes : List ℕ) × Gave tells before after bytes × IsTold (stream ++ bytes)
    × HasRead reader (stream ++ bytes) (handed ++ more.items)
Reads tells before after stream handed (Ok None) reader =
    Gave tells before after [] × HasRead reader stream handed
Reads tells before after stream handed (Err fault.Read) reader =
    Gave tells before after [] × HasRead reader stream handed × (¬ HasEnded reader)
Reads tells before after stream handed (Err fault.NoMemory) reader =
    (bytes : List ℕ) × Gave tells before after bytes × HasTold reader (stream ++ bytes)
Reads tells before after stream handed (Err fault.Exhausted) reader =
    Gave tells before after [] × HasTold reader stream
Reads tells before after stream handed (Err fault.Stopped) reader = ⊥

-- one fault was counted where the source failed, and else none
abbrev pub CountsRead : {T : Type 0} → Result T InboundFault → ℕ → ℕ → Type 0
CountsRead (Ok x) old new = new ≡ old
CountsRead (Err fault.Read) old new = new ≡ old + 1
CountsRead (Err fault.NoMemory) old new = new ≡ old
CountsRead (Err fault.Exhausted) old new = new ≡ old
CountsRead (Err fault.Stopped) old new = new ≡ old

-- arrivals in order, each with the terms that its job was made under
abbrev pub Readings : Type 0
Readings = List (Terms × Arrival)

abbrev pub terms_of : Readings → List Terms
terms_of readings = map (λ reading. reading.0) readings

-- the table and the moment of terms
abbrev pub current_of : Terms → Current
current_of terms = record { table = terms.table; moment = terms.moment }

-- for each of these terms there was one look at the tables and the clock, in their order, which
-- came to its table and its moment, and no other; and each has these rights
abbrev pub TakesUnder : Rights → Bool → Noticed → Noticed → List Terms → Type 0
TakesUnder rights tells before after [] = after ≡ before
TakesUnder rights tells before after (terms ∷ more) =
    (now : Noticed) × Notices tells before now × IsCurrent now (current_of terms)
    × (terms.rights ≡ rights) × TakesUnder rights tells now after more

abbrev pub read_of : Readings → List Arrival
read_of readings = map (λ reading. reading.1) readings

-- the jobs of arrivals, each under its terms
abbrev pub jobs_of : Readings → List Job
jobs_of readings = map (λ reading. job_under reading.0 reading.1) readings

-- jobs at their places, from a first place on, with the mailbox for their answers
unfoldable pub placed : Mail → ℕ → List Job → List (Mail × (ℕ × Job))
placed mail place [] = []
placed mail place (job ∷ jobs) = (mail, (place, job)) ∷ placed mail (place + 1) jobs

-- a count that is another, or one less
abbrev pub IsBehind : ℕ → ℕ → Type 0
IsBehind few count = (count ≡ few) ⊎ (count ≡ few + 1)

-- the half is still that of the same ring, and puts by the same pass, for the same mailbox
abbrev pub IsSameHalf : Inbound → Inbound → Type 0
IsSameHalf before after =
    IsSameIntake before.ring after.ring × IsSamePutter before.putter after.putter

-- from the one state to the other these jobs were admitted, and put into the queue at their places
pub record TakesIn (jobs : List Job) (before after : Inbound) : Type 0 where
  pub same : IsSameIntake before.ring after.ring
  pub admitted_is : admitted after.ring ≡ admitted before.ring ++ jobs
  pub put_is : after.putter ≡ record before.putter {
    put = before.putter.put ++ placed before.putter.mail (length (admitted before.ring)) jobs;
  }

-- from the one state to the other some of these jobs, the first ones, were admitted, and all of
-- them put into the queue at their places, or all but the last
pub record TakesSome (jobs : List Job) (before after : Inbound) : Type 0 where
  pub same : IsSameIntake before.ring after.ring
  pub count : ℕ
  pub there : count ≤ length jobs
  pub admitted_is : admitted after.ring ≡ admitted before.ring ++ take count jobs
  pub puts : ℕ
  pub put_behind : IsBehind puts count
  pub put_is : after.putter ≡ record before.putter {
    put = before.putter.put
        ++ placed before.putter.mail (length (admitted before.ring)) (take puts jobs);
  }

-- what a step did with these jobs, without the source: it took in all, or some where it failed
abbrev pub Receives : {T : Type 0} → List Job → Result T InboundFault → Inbound → Inbound → Type 0
Receives jobs (Ok x) before after = TakesIn jobs before after
Receives jobs (Err why) before after = (why ≢ fault.Read) × TakesSome jobs before after

-- What a step did with arrivals: it read all of them, or the first ones where it failed, each under
-- one of the terms that were taken, and received their jobs.
pub record ReceivesUnder {T : Type 0} (AreTaken : List Terms → Type 0) (arrivals : List Arrival)
    (result : Result T InboundFault) (before after : Inbound) : Type 0 where
  pub readings : Readings
  pub unread : List Arrival
  pub are : arrivals ≡ read_of readings ++ unread
  pub taken : AreTaken (terms_of readings)
  pub all : OnOk result (unread ≡ [])
  pub receives : Receives (jobs_of readings) result before after

-- What a run did with arrivals, where the stream ends so: to its end, or to where the source
-- failed, it took in the jobs of all of them, and else of some.
abbrev pub Ran : Readings → (unread : List Arrival) → Ending → Result Ending InboundFault
    → Inbound → Inbound → Type 0
Ran readings unread end (Ok told) before after =
    TakesIn (jobs_of readings) before after × (unread ≡ []) × (end ≡ told)
    × (told ≢ ending.Broken)
Ran readings unread end (Err fault.Read) before after =
    TakesIn (jobs_of readings) before after × (unread ≡ [])
Ran readings unread end (Err fault.NoMemory) before after =
    TakesSome (jobs_of readings) before after
Ran readings unread end (Err fault.Exhausted) before after =
    TakesSome (jobs_of readings) before after
Ran readings unread end (Err fault.Stopped) before after =
    TakesSome (jobs_of readings) before after

-- What came before a run: bytes of the stream, and of their arrivals those that were answered.
pub record Past : Type 0 where
  pub read : List ℕ
  pub arrived : List Arrival

-- however the stream goes on, these stay its first arrivals
abbrev pub IsPast : Past → Type 0
IsPast past =
    (bytes : List ℕ)
    → (more : List Arrival) × ((arrivals_of (past.read ++ bytes)).arrived ≡ past.arrived ++ more)

-- A run over the bytes that the source gave, behind what came before it, a stream of this version,
-- under terms that were taken. Where the source failed the reader can go on.
pub record HasRun (tells : Bool) (AreTaken : List Terms → Type 0) (version : Version) (past : Past)
    (given given' : List ℕ) (reader : FrameReader) (result : Result Ending InboundFault)
    (before after : Inbound) : Type 0 where
  pub stream : List ℕ
  pub gave : Gave tells given given' stream
  pub version_is : (arrivals_of (past.read ++ stream)).version ≡ version
  pub readings : Readings
  pub taken : AreTaken (terms_of readings)
  pub unread : List Arrival
  pub came : (arrivals_of (past.read ++ stream)).arrived
      ≡ past.arrived ++ (read_of readings ++ unread)
  pub ran : Ran readings unread (arrivals_of (past.read ++ stream)).ending result before after
  pub left : result ≡ Err fault.Read
      → HasRead reader (past.read ++ stream) (past.arrived ++ read_of readings)
      × (¬ HasEnded reader)

-- A run that goes on: the reader was fed a stream of this version, and of what it handed out behind
-- what came before, the jobs of all but these arrivals were taken in, under terms that were taken.
pub record GoesOn (tells : Bool) (AreTaken : List Terms → Type 0) (version : Version) (past : Past)
    (given given' : List ℕ) (reader : FrameReader) (pending : List Arrival)
    (before after : Inbound) : Type 0 where
  pub stream : List ℕ
  pub gave : Gave tells given given' stream
  pub told : version_told (past.read ++ stream) ≡ Some version
  pub readings : Readings
  pub taken : AreTaken (terms_of readings)
  pub read : HasRead reader (past.read ++ stream) (past.arrived ++ (read_of readings ++ pending))
  pub took : TakesIn (jobs_of readings) before after

-- how a read of a run that goes on ended: more arrivals came or none, or the run ends by a fault
abbrev pub Continues : Bool → (AreTaken : List Terms → Type 0) → Version → Past → List ℕ → List ℕ
    → Result (Option (Vec Arrival Global)) InboundFault → FrameReader → Inbound → Inbound → Type 0
Continues tells AreTaken version past given given' (Ok (Some more)) reader before after =
    GoesOn tells AreTaken version past given given' reader more.items before after
Continues tells AreTaken version past given given' (Ok None) reader before after =
    GoesOn tells AreTaken version past given given' reader [] before after
Continues tells AreTaken version past given given' (Err why) reader before after =
    HasRun tells AreTaken version past given given' reader (Err why) before after

-- What a run did that went on from what the first read gave, from the one state of the half and of
-- the reader to the other, while its source went from these bytes, this end and this count of
-- failures to those: it ran over the bytes, told an end where the source had one, and the source's
-- failure is counted.
pub record Runs (tells : Bool) (AreTaken : List Terms → Type 0) (given given' : List ℕ) (ended ended' : Bool)
    (faults faults' : ℕ) (first : Result (Option (Vec Arrival Global)) InboundFault)
    (reader reader' : FrameReader) (result : Result Ending InboundFault)
    (before after : Inbound) : Type 0 where
  pub same : IsSameHalf before after
  pub run : (past : Past) (from : List ℕ) → IsPast past
      → Reads tells from given past.read past.arrived first reader
      → HasRun tells AreTaken (version_or_one (version_of reader)) past from given' reader' result
      before after
  pub at_end : IfOk first (λ more. more ≡ None → IsTrue ended ⊎ HasEnded reader)
      → (past : Past) (from : List ℕ) → Reads tells from given past.read past.arrived first reader
      → IfOk result (λ told. told ≢ ending.Oversize → IsTrue ended')
  pub counts : (count : ℕ) → CountsRead first count faults → CountsRead result count faults'
