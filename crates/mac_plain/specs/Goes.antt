-- What one step of a round did on one client.
use Rattle.std.specs.Prelude.{◌≡◌, ℕ, ◌+◌, Bool, List, [], ◌++◌, length, map}
use Rattle.mac_board.specs.Noticed.{Current}
use Rattle.mac_wire.specs.declared.arrival.Arrival.{Arrival}
use Rattle.mac_wire.specs.declared.arrival.Arrival.TheVariants as arrival
use Rattle.mac_wire.specs.declared.reply.Reply.{Reply}
use Rattle.mac_wire.specs.declared.session.Session.{Session}
use Rattle.mac_wire.specs.Frame.{IsUnfinished}
use Rattle.mac_wire.specs.Stream.{version_or_one}
use Rattle.mac_wire.specs.Reply.{reply_text, reply_frame}
use Rattle.mac_wire.specs.Session.{HasCome}
use Rattle.mac_decide.specs.declared.job.Job.{Job}
use Rattle.mac_plain.specs.Pairs.{EachPair}
use Rattle.mac_plain.specs.Dear.{AreCheap, GoesWide}
use Rattle.mac_plain.specs.Client.{Awaits, EndsTooLong, HasFallen, Passed, arrivals, jobs_of, replies, terms_for}
use Rattle.mac_plain.specs.declared.client.Client.{Client}
use Rattle.mac_plain.specs.declared.course.Course.{Course}
use Rattle.mac_plain.specs.declared.course.Course.TheVariants as course

-- payloads as arrivals
abbrev pub asked : List (List ℕ) → List Arrival
asked payloads = map (λ p. arrival.Payload p) payloads

-- of what was read these jobs are answered, and these payloads are not yet; the rest is carried
pub record Owes (session : Session) (read written : List ℕ) (done : List Job)
    (owed : List (List ℕ)) : Type 0 where
  pub came : HasCome session.version read (arrivals done ++ asked owed) session.carried.items
  pub went : written ++ session.unsent
      ≡ reply_text (version_or_one session.version) (replies done)
  pub counted : session.answered ≡ length done

-- how the session of a client stands in the middle of a round, where it goes on so
abbrev pub OwesSo : Course → Session → (read written : List ℕ) → List Job → List (List ℕ) → Type 0
OwesSo course.Open session read written done owed =
    Owes session read written done owed × IsUnfinished session.carried.items
OwesSo course.Held session read written done owed = Owes session read written done owed
OwesSo course.Wide session read written done owed =
    Owes session read written done owed × GoesWide session.carried.items
OwesSo (course.Awaiting basis) session read written jobs owed =
    Awaits basis session read written jobs × (owed ≡ [])
OwesSo course.TooLong session read written done owed =
    EndsTooLong session read written done × (owed ≡ [])
OwesSo (course.Ended why) session read written done owed =
    Owes session read written done owed × IsUnfinished session.carried.items
OwesSo (course.Fallen why) session read written done owed = HasFallen session read written done

-- a session after one more reply
abbrev pub after_reply : Session → Reply → Session
after_reply session reply = record session {
  answered = session.answered + 1;
  unsent = session.unsent
      ++ reply_frame (version_or_one session.version) session.answered reply;
}

-- from the one to the other, of the payloads that were owed these were answered, the first ones,
-- under this table, at this moment and under the client's rights, which stay, and these are owed
-- besides, none of them too dear for a loop
pub record Goes {P : Type 0} (tells : Bool) (taken written : P → List ℕ) (current : Current)
    (before after : Client P) (answered more : List (List ℕ)) : Type 0 where
  pub came : List ℕ
  pub gone : List ℕ
  pub took : Passed tells (taken before.port) (taken after.port) came
  pub wrote : Passed tells (written before.port) (written after.port) gone
  pub rights_kept : after.rights ≡ before.rights
  pub cheap : AreCheap more
  pub goes_on : (read sent : List ℕ) (done : List Job) (owed : List (List ℕ))
      → OwesSo before.course before.session read sent done (answered ++ owed)
      → OwesSo after.course after.session (read ++ came) (sent ++ gone)
      (done ++ jobs_of (terms_for current before) answered) (owed ++ more)

-- of each client what it owed was answered, the payloads of its place
abbrev pub AreAnswered : {P : Type 0} → Bool → (taken written : P → List ℕ) → Current
    → (ℕ → List (List ℕ)) → List (Client P) → List (Client P) → Type 0
AreAnswered tells taken written current owed olds news =
    EachPair (λ k before after. Goes tells taken written current before after (owed k) [])
    olds news

-- each client owes besides what came on it, the payloads of its place
abbrev pub AreRead : {P : Type 0} → Bool → (taken written : P → List ℕ) → Current
    → (ℕ → List (List ℕ)) → List (Client P) → List (Client P) → Type 0
AreRead tells taken written current owed olds news =
    EachPair (λ k before after. Goes tells taken written current before after [] (owed k))
    olds news
