-- A connection that was answered elsewhere before, and then served.
use Rattle.std.specs.Prelude.{◌≡◌, ◌⊎◌, ℕ, Bool, List, [], ◌++◌, Option, Some, None, IfSome}
use Rattle.mac_queue.specs.Taking.{Taking}
use Rattle.mac_queue.specs.Putting.{Putting}
use Rattle.mac_board.specs.Noticed.{Noticed}
use Rattle.mac_wire.specs.declared.arrival.Arrival.{Arrival}
use Rattle.mac_wire.specs.declared.reply.Reply.{Reply}
use Rattle.mac_wire.specs.declared.session.Session.{Session}
use Rattle.mac_wire.specs.Stream.{arrivals_of}
use Rattle.mac_wire.specs.Reply.{reply_text}
use Rattle.mac_wire.specs.Session.{Stands}
use Rattle.mac_decide.specs.declared.job.Job.{Job}
use Rattle.mac_decide.specs.declared.rights.Rights.{Rights}
use Rattle.mac_serve.specs.declared.connection.Served.{Served}
use Rattle.mac_serve.specs.declared.fault.ServeFault.{ServeFault}
use Rattle.mac_serve.specs.declared.fault.ServeFault.TheVariants as fault
use Rattle.mac_serve.specs.Receiving.{Readings, TakesUnder, read_of}
use Rattle.mac_serve.specs.Serving.{answers, HasServed}

-- What was written of a stream, before and then, is a beginning of the framed replies to all that
-- was read of it, in order, each once; where that was told it is all of them, and all that has
-- arrived was read; and a session that is given back stands there.
pub record Joins (stream written : List ℕ) (arrived : List Arrival) (readings : Readings)
    (unread : List Arrival) (replies : List Reply) (why : Option ServeFault)
    (served : Served) : Type 0 where
  pub begins : (rest : List ℕ)
      × (reply_text (arrivals_of stream).version (replies ++ answers readings)
      ≡ written ++ rest)
  pub all : ((why ≡ None) ⊎ ((why ≡ Some fault.Torn) ⊎ (why ≡ Some fault.Read)))
      → (unread ≡ []) × (written ≡ reply_text (arrivals_of stream).version
      (replies ++ answers readings))
  pub onward : IfSome served.session (λ next.
      Stands next stream written (arrived ++ read_of readings) (replies ++ answers readings))

-- whatever `serve` does with a session that stands
abbrev pub ServingJoins : Type 0
ServingJoins =
    (rights : Rights) (tells_in tells_out tells : Bool) (known known' : Noticed) (session : Session)
    (read written : List ℕ) (arrived : List Arrival) (replies : List Reply)
    (given given' wrote wrote' : List ℕ) (putter : Putting Job) (taker : Taking Job)
    (why : Option ServeFault) (served : Served)
    → Stands session read written arrived replies
    → (h : HasServed tells_in tells_out (TakesUnder rights tells known known') session
    (record { read = read; arrived = arrived }) given given' wrote wrote' putter taker why served)
    → Joins (read ++ h.stream) (written ++ (h.ahead ++ h.output)) arrived h.readings h.unread
    replies why served
