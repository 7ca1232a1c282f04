-- A ring, as contracts see its two ends. All of it is this project's own.
use Rattle.std.specs.Prelude.{◌≡◌, ℕ, ◌+◌, ◌≤◌, Bool, false, not, ◌&&◌, nat_lt, List, [], ◌∷◌, ◌++◌, length, map, take, drop, Some, slice_get}
use Rattle.std.specs.FinMap.{get}
use mathlib.Core.List.{IsPrefix}
use Rattle.rtrb.specs.Ring as ring
use Rattle.rtrb.specs.declared.producer.Producer.{Producer}
use Rattle.rtrb.specs.declared.consumer.Consumer.{Consumer}
use Rattle.mac_order.specs.Buffer.{Buffer, opened}
use Rattle.mac_order.specs.declared.next.Next.{Next}
use Rattle.mac_order.specs.declared.next.Next.TheVariants.{Reply, Stranger, Closed, Waiting}
use Rattle.mac_order.specs.declared.outlet.TheConstants.{OPEN_SLIPS_MAX}

-- an outlet: its end of the ring, and its reorder buffer
pub record Exit (Job A P : Type 0) : Type 0 where
  pub ring : Consumer Job A P
  pub buffer : Buffer Job

module _ {Job A P : Type 0} where
  -- the jobs that an intake has admitted, in order
  abbrev pub admitted : Producer Job A P → List Job
  admitted intake = ring.sent intake

  -- how many slips of the ring an intake knows to be free
  abbrev pub free_slips : Producer Job A P → ℕ
  free_slips intake = ring.known_free intake

  -- the jobs that an outlet has taken out of the ring, in order
  abbrev pub received : Exit Job A P → List Job
  received outlet = ring.received outlet.ring

  -- the jobs that an outlet knows to lie in the ring, in order
  abbrev pub waiting : Exit Job A P → List Job
  waiting outlet = ring.known_items outlet.ring

  -- the replies that an outlet has released: those to the first jobs that it took, one for each
  -- place that was sent
  abbrev pub released : {Answered : Type 0} → (Job → Answered) → Exit Job A P → List Answered
  released reply_to outlet = map reply_to (take outlet.buffer.next (received outlet))

  -- the two ends of one ring
  abbrev pub IsRing : Producer Job A P → Exit Job A P → Type 0
  IsRing intake outlet = ring.IsPair intake outlet.ring

  -- the intake of the same ring, at two times
  abbrev pub IsSameIntake : Producer Job A P → Producer Job A P → Type 0
  IsSameIntake before after = ring.SameProducer before after

  -- the intake has admitted nothing since, and knows of no fewer free slips
  abbrev pub Knows : Producer Job A P → Producer Job A P → Type 0
  Knows before after =
      IsSameIntake before after × (admitted after ≡ admitted before)
      × (free_slips before ≤ free_slips after)

  -- the outlet of the same ring, at two times
  abbrev pub IsSameOutlet : Exit Job A P → Exit Job A P → Type 0
  IsSameOutlet before after = ring.SameConsumer before.ring after.ring

  -- the outlet has not touched the ring since
  abbrev pub Rests : Exit Job A P → Exit Job A P → Type 0
  Rests before after =
      IsSameOutlet before after × (received after ≡ received before)
      × (waiting after ≡ waiting before)

  -- the outlet has changed nothing since, but may know of more jobs in the ring
  abbrev pub Looks : Exit Job A P → Exit Job A P → Type 0
  Looks before after =
      IsSameOutlet before after × (received after ≡ received before)
      × IsPrefix (waiting before) (waiting after) × (after.buffer ≡ before.buffer)

  -- the outlet has taken one job out of the ring, the first of those that it knew to lie there, if
  -- any, and has opened it
  abbrev pub Takes : Exit Job A P → Exit Job A P → Type 0
  Takes before after =
      IsSameOutlet before after
      × ((job : Job) × (received after ≡ received before ++ job ∷ [])
      × (after.buffer ≡ opened before.buffer job)
      × IsPrefix (waiting before) (job ∷ waiting after))

  -- the answer that waits at the next place is to another job than was received there
  pub record IsForeign (same : Job → Job → Bool) (outlet : Exit Job A P) : Type 0 where
    pub answer : Job
    pub settled : get outlet.buffer.answers outlet.buffer.next ≡ Some answer
    pub job : Job
    pub received_is : slice_get (received outlet) outlet.buffer.next ≡ Some job
    pub unlike : same answer job ≡ false

  -- what an outlet releases: a reply is that to the job which was received at the next place, and a
  -- stranger is foreign there
  abbrev pub Releases : {Which Answered : Type 0} → (Job → Job → Bool) → (Job → Answered)
      → Exit Job A P → Next Which Job Answered → Type 0
  Releases same reply_to outlet (Reply place reply) =
      (place ≡ outlet.buffer.next)
      × (slice_get (map reply_to (received outlet)) place ≡ Some reply)
  Releases same reply_to outlet (Stranger place) =
      (place ≡ outlet.buffer.next) × IsForeign same outlet
  Releases same reply_to outlet Closed = Unit {0}
  Releases same reply_to outlet Waiting = Unit {0}

  -- what always holds: only received jobs were sent, at most 64 of them are not, and while the
  -- buffer is open these are its slips
  pub record IsKept (outlet : Exit Job A P) : Type 0 where
    pub sent : outlet.buffer.next ≤ length (received outlet)
    pub window : length (received outlet) ≤ outlet.buffer.next + OPEN_SLIPS_MAX
    pub slips : outlet.buffer.closed ≡ false
        → outlet.buffer.slips ≡ drop outlet.buffer.next (received outlet)

-- the reply that leaves, if any
abbrev pub replied : {Which Job Answered : Type 0} → Next Which Job Answered → List Answered
replied (Reply place reply) = reply ∷ []
replied (Stranger place) = []
replied Closed = []
replied Waiting = []

-- whether an outlet with this buffer takes a slip, if there is one
abbrev pub may_look : {Job : Type 0} → Buffer Job → Bool
may_look buffer = not buffer.closed && nat_lt (length buffer.slips) OPEN_SLIPS_MAX
