-- What a run of `serve` did, for its callers.
use Rattle.std.specs.Prelude.{◌≡◌, ◌⊎◌, ℕ, ◌+◌, ◌≤◌, Bool, if◌then◌else◌, List, [], ◌++◌, length, map, take, Option, Some, None, Result, Ok, Err, IfSome, IsSome}
use Rattle.mac_queue.specs.Taking.{Taking, with_posts}
use Rattle.mac_queue.specs.Putting.{Putting, IsSamePutter}
use Rattle.mac_wire.specs.declared.arrival.Arrival.{Arrival}
use Rattle.mac_wire.specs.declared.arrival.Ending.{Ending}
use Rattle.mac_wire.specs.declared.arrival.Ending.TheVariants as ending
use Rattle.mac_wire.specs.declared.reply.Reply.{Reply}
use Rattle.mac_wire.specs.declared.version.Version.{Version}
use Rattle.mac_wire.specs.Stream.{arrivals_of, Arrivals}
use Rattle.mac_wire.specs.Frame.{framed}
use Rattle.mac_wire.specs.FrameReader.{HasRead, HasEnded}
use Rattle.mac_wire.specs.Reply.{payloads_from}
use Rattle.mac_wire.specs.Session.{HasCome}
use Rattle.mac_wire.specs.declared.frame.FrameReader.{FrameReader}
use Rattle.mac_wire.specs.declared.session.Session.{Session}
use Rattle.mac_wire.specs.Whole.{HasWhole}
use Rattle.mac_decide.specs.Answer.{answer_of}
use Rattle.mac_decide.specs.Terms.{Terms}
use Rattle.mac_decide.specs.declared.job.Job.{Job}
use Rattle.mac_decide.specs.declared.rights.Rights.{Rights}
use Rattle.mac_keys.specs.KeyTable.{Table}
use Rattle.mac_serve.specs.Receiving.{Gave, Past, Readings, terms_of, read_of, jobs_of, placed, IsBehind}
use Rattle.mac_serve.specs.Posts.{AreAnswered, TookForeign}
use Rattle.mac_serve.specs.declared.fault.ServeFault.{ServeFault}
use Rattle.mac_serve.specs.declared.fault.ServeFault.TheVariants as fault
use Rattle.mac_serve.specs.declared.connection.Served.{Served}
use Rattle.mac_serve.specs.declared.outbound.OutboundFault.{OutboundFault}
use Rattle.mac_serve.specs.declared.outbound.OutboundFault.TheVariants as sending
use Rattle.mac_serve.specs.declared.incoming.InboundFault.{InboundFault}
use Rattle.mac_serve.specs.declared.incoming.InboundFault.TheVariants as reading

-- the replies to arrivals, each under its terms
abbrev pub answers : Readings → List Reply
answers readings = map (λ reading. answer_of reading.0 reading.1) readings

-- terms with this table and these rights, at the moment that they have
abbrev pub under_table : Table → Rights → Terms → Terms
under_table table rights terms = record { table = table; rights = rights; moment = terms.moment }

-- the frames of replies, the first of which is at this place
abbrev pub text_from : Version → ℕ → List Reply → List ℕ
text_from version place replies = framed (payloads_from version place replies)

-- every arrival was read and admitted, put into the queue at its place, and its reply was sent in
-- the stream's version, and nothing else was written; nothing is left of what was unsent before
pub record SentAll (version : Version) (place : ℕ) (readings : Readings) (unread : List Arrival)
    (putter : Putting Job) (output left : List ℕ) (served : Served) : Type 0 where
  pub output_is : output ≡ text_from version place (answers readings)
  pub none_unread : unread ≡ []
  pub none_left : left ≡ []
  pub arrived_is : served.arrived ≡ length readings
  pub sent_is : served.sent ≡ length readings
  pub put_is : served.desk.putter
      ≡ record putter { put = putter.put ++ placed putter.mail 0 (jobs_of readings) }

-- the frames of the replies that were sent were written, and nothing else; the stream was not read
-- to its end, or not all was sent
pub record SentSome (version : Version) (place : ℕ) (readings : Readings)
    (output : List ℕ) (served : Served) : Type 0 where
  pub output_is : output ≡ text_from version place (take served.sent (answers readings))
  pub ending_is : served.ending ≡ ending.Broken

-- the sink failed: a beginning of the replies' frames was written
pub record SentBeginning (version : Version) (place : ℕ) (readings : Readings)
    (output : List ℕ) (served : Served) : Type 0 where
  pub output_is : output ≡ take served.written (text_from version place (answers readings))
  pub ending_is : served.ending ≡ ending.Broken

-- What was written, and which ending is told, row by row: by the fault that is told, if any.
abbrev pub Sent : Arrivals → ℕ → Readings → (unread : List Arrival) → Putting Job
    → (output left : List ℕ) → Option ServeFault → Served → Type 0
Sent a place readings unread putter output left None served =
    SentAll a.version place readings unread putter output left served × (served.ending ≡ a.ending)
    × ((a.ending ≡ ending.Clean) ⊎ (a.ending ≡ ending.Oversize))
Sent a place readings unread putter output left (Some fault.Torn) served =
    SentAll a.version place readings unread putter output left served × (served.ending ≡ a.ending)
    × (a.ending ≡ ending.Torn)
Sent a place readings unread putter output left (Some fault.Read) served =
    SentAll a.version place readings unread putter output left served
    × (served.ending ≡ ending.Broken)
Sent a place readings unread putter output left (Some fault.Write) served =
    SentBeginning a.version place readings output served
Sent a place readings unread putter output left (Some fault.NoMemory) served =
    SentSome a.version place readings output served
Sent a place readings unread putter output left (Some fault.Stranger) served =
    SentSome a.version place readings output served
Sent a place readings unread putter output left (Some fault.Exhausted) served =
    SentSome a.version place readings output served

-- The connection can go on as this session: all that was read is whole frames and what is carried,
-- all of it is answered, and nothing is unsent.
pub record IsLeft (stream : List ℕ) (arrived : List Arrival) (answered : ℕ)
    (session : Session) : Type 0 where
  pub came : HasCome session.version stream arrived session.carried.items
  pub none_unsent : session.unsent ≡ []
  pub answered_is : session.answered ≡ answered

-- What a run did: it read more of a stream, behind what had come of it before, and wrote bytes,
-- those that were unsent before first of all. Its arrivals were read in order, each under terms of
-- its own among those that were taken. So many jobs of these were admitted, so many
-- bytes of their replies written, and so many replies went out whole. The admitted jobs were put
-- into the queue at their places, or all but the last. For each reply that went out the desk took a
-- post with that place's job. A stranger is told only where a post was foreign. Where the source
-- failed, and only there, the connection can go on.
pub record HasServed (tells_in tells_out : Bool) (AreTaken : List Terms → Type 0)
    (session : Session) (past : Past) (given given' wrote wrote' : List ℕ)
    (putter : Putting Job) (taker : Taking Job)
    (why : Option ServeFault) (served : Served) : Type 0 where
  pub stream : List ℕ
  pub gave : Gave tells_in given given' stream
  pub readings : Readings
  pub taken_are : AreTaken (terms_of readings)
  pub unread : List Arrival
  pub came : (arrivals_of (past.read ++ stream)).arrived
      ≡ past.arrived ++ (read_of readings ++ unread)
  pub ahead : List ℕ
  pub left : List ℕ
  pub parts : session.unsent ≡ ahead ++ left
  pub output : List ℕ
  pub behind : (left ≡ []) ⊎ (output ≡ [])
  pub took : Gave tells_out wrote wrote' (ahead ++ output)
  pub written_is : served.written ≡ length output
  pub sent : Sent (arrivals_of (past.read ++ stream)) session.answered readings unread putter output
      left why served
  pub whole : HasWhole
      (payloads_from (arrivals_of (past.read ++ stream)).version session.answered
      (answers readings)) served.written served.sent
  pub admitted : served.arrived ≤ length readings
  pub answered_few : served.sent ≤ served.arrived
  pub same_putter : IsSamePutter putter served.desk.putter
  pub puts : ℕ
  pub put_behind : IsBehind puts served.arrived
  pub put_is : served.desk.putter ≡ record putter {
    put = putter.put ++ placed putter.mail 0 (take puts (jobs_of readings));
  }
  pub posts : List (ℕ × Option Job)
  pub taken_is : served.desk.taker ≡ with_posts taker posts
  pub answered : AreAnswered (jobs_of readings) served.sent posts
  pub foreign : why ≡ Some fault.Stranger
      → TookForeign (jobs_of readings) served.sent posts
  pub kept : why ≡ Some fault.Read → IsSome served.session
  pub back : IfSome served.session (λ next. (why ≡ Some fault.Read)
      × IsLeft (past.read ++ stream) (past.arrived ++ read_of readings)
      (session.answered + length readings) next)

-- the fault that a result tells, if any, and what else it tells
abbrev pub fault_of : Result Served (ServeFault × Served) → Option ServeFault
fault_of (Ok served) = None
fault_of (Err e) = Some e.0

abbrev pub served_of : Result Served (ServeFault × Served) → Served
served_of (Ok served) = served
served_of (Err e) = e.1

-- one failure was counted, or none
abbrev pub MayCount : ℕ → ℕ → Type 0
MayCount old new = (new ≡ old) ⊎ (new ≡ old + 1)

-- What the devices counted, the source first: a failure of the source where that is told, and of
-- the sink where that is told; the sink's comes before the source's, so that both may have failed.
abbrev pub CountsServed : Option ServeFault → ℕ → ℕ → ℕ → ℕ → Type 0
CountsServed None read read' write write' = (read' ≡ read) × (write' ≡ write)
CountsServed (Some fault.Torn) read read' write write' = (read' ≡ read) × (write' ≡ write)
CountsServed (Some fault.Read) read read' write write' = (read' ≡ read + 1) × (write' ≡ write)
CountsServed (Some fault.Write) read read' write write' = MayCount read read' × (write' ≡ write + 1)
CountsServed (Some fault.NoMemory) read read' write write' = MayCount read read' × (write' ≡ write)
CountsServed (Some fault.Stranger) read read' write write' = MayCount read read' × (write' ≡ write)
CountsServed (Some fault.Exhausted) read read' write write' = MayCount read read' × (write' ≡ write)

-- the fault, if any, and the ending that a stream's ending tells once all is sent
abbrev pub ended_as : Ending → Option ServeFault × Ending
ended_as ending.Clean = (None, ending.Clean)
ended_as ending.Torn = (Some fault.Torn, ending.Torn)
ended_as ending.Oversize = (None, ending.Oversize)
ended_as ending.Broken = (None, ending.Broken)

-- What is told of how the two halves ended, and of whether a reply to each job was released: the
-- fault of the half that sends comes first, then that of the half that reads, and where none is
-- told all is sent.
abbrev pub outcome_of : {T : Type 0} → Result T OutboundFault → Result Ending InboundFault → Bool
    → Option ServeFault × Ending
outcome_of (Err sending.Write) read all = (Some fault.Write, ending.Broken)
outcome_of (Err sending.NoMemory) read all = (Some fault.NoMemory, ending.Broken)
outcome_of (Err sending.Stranger) read all = (Some fault.Stranger, ending.Broken)
outcome_of (Err sending.Exhausted) read all = (Some fault.Exhausted, ending.Broken)
outcome_of (Ok sent) (Err reading.NoMemory) all = (Some fault.NoMemory, ending.Broken)
outcome_of (Ok sent) (Err reading.Read) all =
    (Some (if all then fault.Read else fault.Exhausted), ending.Broken)
outcome_of (Ok sent) (Err reading.Exhausted) all = (Some fault.Exhausted, ending.Broken)
outcome_of (Ok sent) (Err reading.Stopped) all = (Some fault.Exhausted, ending.Broken)
outcome_of (Ok sent) (Ok end) all = if all then ended_as end else (Some fault.Exhausted, ending.Broken)

-- a session that goes on with this reader, whose places and unsent bytes are these
pub record GoesOnWith (reader : FrameReader) (unsent : List ℕ) (answered : ℕ)
    (session : Session) : Type 0 where
  pub carries : (stream : List ℕ) (handed : List Arrival) → HasRead reader stream handed
      → ¬ HasEnded reader → HasCome session.version stream handed session.carried.items
  pub unsent_is : session.unsent ≡ unsent
  pub answered_is : session.answered ≡ answered

-- What is told in the end, and the session that is given back: that one where the source failed, or
-- a fault of memory or count where none could be made; else what was told before, and none.
abbrev pub GivesBack : (Session → Type 0) → Option ServeFault
    → Option ServeFault → Option Session → Type 0
GivesBack IsNext (Some fault.Read) why (Some next) = (why ≡ Some fault.Read) × IsNext next
GivesBack IsNext (Some fault.Read) why None =
    (why ≡ Some fault.NoMemory) ⊎ (why ≡ Some fault.Exhausted)
GivesBack IsNext (Some fault.Write) why next = (why ≡ Some fault.Write) × (next ≡ None)
GivesBack IsNext (Some fault.NoMemory) why next = (why ≡ Some fault.NoMemory) × (next ≡ None)
GivesBack IsNext (Some fault.Torn) why next = (why ≡ Some fault.Torn) × (next ≡ None)
GivesBack IsNext (Some fault.Stranger) why next = (why ≡ Some fault.Stranger) × (next ≡ None)
GivesBack IsNext (Some fault.Exhausted) why next = (why ≡ Some fault.Exhausted) × (next ≡ None)
GivesBack IsNext None why next = (why ≡ None) × (next ≡ None)

-- the number of a fault
abbrev pub serve_code : ServeFault → ℕ
serve_code fault.Read = 1
serve_code fault.Write = 2
serve_code fault.NoMemory = 3
serve_code fault.Torn = 4
serve_code fault.Stranger = 5
serve_code fault.Exhausted = 6
