-- A connection's life: all that came and went on it, from its first byte on, and how it stands.
use Rattle.std.specs.Prelude.{◌≡◌, ℕ, List, All}
use Rattle.mac_order.specs.History.{IsReached}
use Rattle.mac_board.specs.Noticed.{Current}
use Rattle.mac_wire.specs.declared.arrival.Ending.{Ending}
use Rattle.mac_wire.specs.declared.session.Session.{Session}
use Rattle.mac_wire.specs.Reply.{reply_text}
use Rattle.mac_wire.specs.Session.{Stands}
use Rattle.mac_wire.specs.Stream.{arrivals_of}
use Rattle.mac_decide.specs.declared.job.Job.{Job}
use Rattle.mac_decide.specs.declared.rights.Rights.{Rights}
use Rattle.mac_decide.specs.declared.macaroons.Macaroons.{Macaroons}
use Rattle.mac_decide.specs.Prepared.{reply_to_job}
use Rattle.mac_decide.specs.World.{job_under}
use Rattle.mac_plain.specs.Client.{IsPromised, StandsSo, arrivals, replies}
use Rattle.mac_plain.specs.declared.course.Course.{Course}

-- a job is asked under these rights, under some table and at some moment
abbrev pub IsUnder : Rights → Job → Type 0
IsUnder rights job = (current : Current)
    × (job ≡ job_under (record { table = current.table; rights = rights; moment = current.moment })
    job.arrival)

-- between two requests: all that came is answered under these rights, but for what is carried
pub record Rests (rights : Rights) (came went : List ℕ) (session : Session) : Type 0 where
  pub done : List Job
  pub under : All (IsUnder rights) done
  pub stands : Stands session came went (arrivals done) (replies done)

-- the same of a client, as it goes on
pub record Lives (rights : Rights) (came went : List ℕ) (goes : Course) (session : Session)
    : Type 0 where
  pub done : List Job
  pub under : All (IsUnder rights) done
  pub stands : StandsSo goes session came went done

-- What was written is a beginning of the framed answers to what was read, in order, each once, all
-- under these rights.
pub record Said (rights : Rights) (came went : List ℕ) : Type 0 where
  pub done : List Job
  pub under : All (IsUnder rights) done
  pub promised : IsPromised came went done

-- What was read ends so, and what was written are the framed answers to all that arrived, in order,
-- each once, all under these rights.
pub record SaidAll (rights : Rights) (came went : List ℕ) (ends : Ending) : Type 0 where
  pub done : List Job
  pub under : All (IsUnder rights) done
  pub arrived : (arrivals_of came).arrived ≡ arrivals done
  pub ended : (arrivals_of came).ending ≡ ends
  pub all : went ≡ reply_text (arrivals_of came).version (replies done)

-- Some order of events brings a connection of the world to these jobs and their replies, all under
-- these rights, and what was written is a beginning of the framed replies, to what was read.
pub record IsOfWorld (rights : Rights) (came went : List ℕ) : Type 0 where
  pub done : List Job
  pub under : All (IsUnder rights) done
  pub reached : IsReached Macaroons reply_to_job done (replies done)
  pub promised : IsPromised came went done
