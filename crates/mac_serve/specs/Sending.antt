-- How the outbound half of a connection stands, and how it ends.
use Rattle.std.specs.Prelude.{◌≡◌, ◌≢◌, ◌⊎◌, ℕ, ◌+◌, ◌≤◌, Bool, false, List, [], ◌++◌, length, map, take, Option, Some, Contains, Result, Ok, Err, IsTrue, MatchResult, OnOk}
use Rattle.std.specs.FinMap.{get}
use Rattle.mac_queue.specs.Taking.{Taking, with_posts}
use Rattle.mac_order.specs.Ring.{received, IsKept, IsSameOutlet}
use Rattle.mac_wire.specs.declared.reply.Reply.{Reply}
use Rattle.mac_wire.specs.Frame.{framed}
use Rattle.mac_wire.specs.Reply.{payloads_from}
use Rattle.mac_wire.specs.Whole.{HasWhole}
use Rattle.mac_decide.specs.declared.job.Job.{Job}
use Rattle.mac_decide.specs.Answer.{reply_of}
use Rattle.mac_serve.specs.declared.outbound.Outbound.{Outbound}
use Rattle.mac_serve.specs.declared.outbound.Due.{Due}
use Rattle.mac_serve.specs.declared.outbound.Due.TheVariants as due
use Rattle.mac_serve.specs.declared.outbound.OutboundFault.{OutboundFault}
use Rattle.mac_serve.specs.declared.outbound.OutboundFault.TheVariants as fault
use Rattle.mac_serve.specs.Gathered.{Gathered}
use Rattle.mac_serve.specs.Posts.{AreAnswered, TookForeign}

-- the reply to a job
abbrev pub answer_to : Job → Reply
answer_to job = reply_of job.arrival job.basis

-- the replies to the jobs that came through the ring
abbrev pub replies : Outbound → List Reply
replies o = map answer_to (received o.ring)

-- the payloads of their frames, in the version of the stream, from the half's first place on
abbrev pub payloads : Outbound → List (List ℕ)
payloads o = payloads_from o.version o.base (replies o)

-- the place whose reply is released next
abbrev pub next : Outbound → ℕ
next o = o.ring.buffer.next

-- the bytes that went out
abbrev pub out_text : Outbound → List ℕ
out_text o = take o.written (framed (payloads o))

-- the half is still that of the same ring, and frames replies in the same version, from the same
-- place on
abbrev pub IsSame : Outbound → Outbound → Type 0
IsSame before after =
    IsSameOutlet before.ring after.ring × (after.version ≡ before.version)
    × (after.base ≡ before.base)

-- The half holds what it should, where its taker was `before` earlier: replies are released and
-- gathered in order, and each that was released had its post.
pub record Holds (before : Taking Job) (o : Outbound) : Type 0 where
  pub gathered : Gathered (payloads o) (next o) o.sent o.written o.gathered.items
  pub posts : List (ℕ × Option Job)
  pub taken : o.taker ≡ with_posts before posts
  pub answered : AreAnswered (received o.ring) (next o) posts

-- it goes on: its buffer is open, and each answer that waits came by a post
pub record Stands (before : Taking Job) (o : Outbound) : Type 0 where
  pub holds : Holds before o
  pub kept : IsKept o.ring
  pub live : o.ring.buffer.closed ≡ false
  pub waiting : (place : ℕ) (job : Job) → get o.ring.buffer.answers place ≡ Some job
      → Contains holds.posts (place, Some job)

-- It ended by this fault: `sent` replies went out whole, and but for a fault of the sink nothing
-- else; each had its post; a stranger was told only where one came.
pub record Fell (before : Taking Job) (why : OutboundFault) (o : Outbound) : Type 0 where
  pub frames : HasWhole (payloads o) o.written o.sent
  pub within : o.written ≤ length (framed (payloads o))
  pub whole : why ≢ fault.Write → out_text o ≡ framed (take o.sent (payloads o))
  pub posts : List (ℕ × Option Job)
  pub taken : o.taker ≡ with_posts before posts
  pub answered : AreAnswered (received o.ring) o.sent posts
  pub foreign : why ≡ fault.Stranger → TookForeign (received o.ring) o.sent posts

-- how a step ended
abbrev pub Sends : {T : Type 0} → Taking Job → Result T OutboundFault → Outbound → Type 0
Sends before (Ok x) o = Stands before o
Sends before (Err why) o = Fell before why o

-- one fault was counted where the sink failed, and else none
abbrev pub CountsWrite : {T : Type 0} → Result T OutboundFault → ℕ → ℕ → Type 0
CountsWrite (Err fault.Write) old new = new ≡ old + 1
CountsWrite (Err fault.NoMemory) old new = new ≡ old
CountsWrite (Err fault.Stranger) old new = new ≡ old
CountsWrite (Err fault.Exhausted) old new = new ≡ old
CountsWrite (Ok x) old new = new ≡ old

-- What a step did, from the one state of the half to the other, while its sink went from these
-- bytes and this count of failures to those: it left the half's ring and version as they were; it
-- ended so; behind what had gone out before, the sink took what went out in it; and the sink's
-- failure is counted.
pub record Steps {T : Type 0} (tells : Bool) (wrote wrote' : List ℕ) (faults faults' : ℕ)
    (result : Result T OutboundFault) (before after : Outbound) : Type 0 where
  pub same : IsSame before after
  pub sends : (earlier : Taking Job) → Stands earlier before → Sends earlier result after
  pub written : IsTrue tells → (earlier : Taking Job) (head : List ℕ)
      → Stands earlier before → wrote ≡ head ++ out_text before → wrote' ≡ head ++ out_text after
  pub counts : CountsWrite result faults faults'

-- a step that didn't touch the sink
abbrev pub StepsAlone : {T : Type 0} → Result T OutboundFault → Outbound → Outbound → Type 0
StepsAlone result before after =
    (tells : Bool) (wrote : List ℕ) (faults : ℕ)
    → Steps tells wrote wrote faults faults result before after

-- a step after which all that was released is out, unless it failed
pub record SendsAll {T : Type 0} (tells : Bool) (wrote wrote' : List ℕ) (faults faults' : ℕ)
    (result : Result T OutboundFault) (before after : Outbound) : Type 0 where
  pub steps : Steps tells wrote wrote' faults faults' result before after
  pub sent : OnOk result (after.sent ≡ next after)

-- what writing all that is gathered did, whether the buffer is open or not
pub record Flushes {T : Type 0} (tells : Bool) (wrote wrote' : List ℕ) (faults faults' : ℕ)
    (result : Result T OutboundFault) (before after : Outbound) : Type 0 where
  pub ring : after.ring ≡ before.ring
  pub taker : after.taker ≡ before.taker
  pub version : after.version ≡ before.version
  pub base : after.base ≡ before.base
  pub holds : (earlier : Taking Job) → Holds earlier before
      → MatchResult result (λ _. Holds earlier after)
      (λ why. (why ≢ fault.Stranger) × Fell earlier why after)
  pub written : IsTrue tells → (earlier : Taking Job) (head : List ℕ)
      → Holds earlier before → wrote ≡ head ++ out_text before → wrote' ≡ head ++ out_text after
  pub sent : OnOk result (after.sent ≡ next after)
  pub counts : CountsWrite result faults faults'

-- an answer to another job closed the buffer, and it came by a foreign post, however many replies
-- are out
pub record MeetsStranger (before after : Outbound) : Type 0 where
  pub same : IsSame before after
  pub out : out_text after ≡ out_text before
  pub holds : (earlier : Taking Job) → Stands earlier before
      → (h : Holds earlier after) × ((sent : ℕ) → TookForeign (received after.ring) sent h.posts)

-- what came of asking for the next reply
abbrev pub Releases : Due → Outbound → Outbound → Type 0
Releases due.Gathered before after = StepsAlone (Ok (tt {0})) before after
Releases due.Waiting before after = StepsAlone (Ok (tt {0})) before after
Releases due.Stranger before after = MeetsStranger before after
Releases due.NoMemory before after = StepsAlone {T = Unit {0}} (Err fault.NoMemory) before after
Releases due.Exhausted before after = StepsAlone {T = Unit {0}} (Err fault.Exhausted) before after

-- sending what was unsent from before: all of it went out, or a beginning where the sink failed
pub record SendsUnsent {T : Type 0} (tells : Bool) (unsent unsent' wrote wrote' : List ℕ)
    (faults faults' : ℕ) (result : Result T OutboundFault) : Type 0 where
  pub ahead : List ℕ
  pub parts : unsent ≡ ahead ++ unsent'
  pub all : MatchResult result (λ _. unsent' ≡ []) (λ why. why ≡ fault.Write)
  pub written : IsTrue tells → wrote' ≡ wrote ++ ahead
  pub counts : CountsWrite result faults faults'

-- What a run did that began with bytes that were unsent: it sent some of those, and all of them
-- before anything else; the rest is as of any step.
pub record SendsBoth {T : Type 0} (tells : Bool) (unsent unsent' wrote wrote' : List ℕ)
    (faults faults' : ℕ) (result : Result T OutboundFault) (before after : Outbound) : Type 0 where
  pub same : IsSame before after
  pub sends : (earlier : Taking Job) → Stands earlier before → Sends earlier result after
  pub sent : OnOk result (after.sent ≡ next after)
  pub counts : CountsWrite result faults faults'
  pub ahead : List ℕ
  pub parts : unsent ≡ ahead ++ unsent'
  pub all : OnOk result (unsent' ≡ [])
  pub none : (unsent' ≡ []) ⊎ ((after.written ≡ before.written) × (after.sent ≡ before.sent))
  pub written : IsTrue tells → (earlier : Taking Job) → Stands earlier before
      → out_text before ≡ [] → wrote' ≡ wrote ++ (ahead ++ out_text after)
