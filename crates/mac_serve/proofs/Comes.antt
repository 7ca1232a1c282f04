-- What a reorder buffer gives when it is asked for its next reply, and what that leaves.
use Rattle.std.proofs.Common.{◌≡◌, ℕ, Bool, true, false, if◌then◌else◌, List, [], ◌∷◌, refl, sym, subst}
use Rattle.std.specs.Prelude.{Option, Some, None}
use Rattle.std.specs.FinMap.{get}
use Rattle.mac_order.specs.Buffer.{Buffer, next_of, meeting, sent_off, closed_off}
use Rattle.mac_order.specs.declared.next.Next.{Next}
use Rattle.mac_order.specs.declared.next.Next.TheVariants.{Reply, Stranger, Closed, Waiting}

-- a reply that leaves: the first slip and the answer that waits at its place are one job's
pub record Leaves {Job : Type 0} (same : Job → Job → Bool) (buffer after : Buffer Job) : Type 0 where
  pub slip : Job
  pub answer : Job
  pub rest : List Job
  pub slips : buffer.slips ≡ slip ∷ rest
  pub settled_is : get buffer.answers buffer.next ≡ Some answer
  pub equal : same answer slip ≡ true
  pub after_is : after ≡ sent_off buffer rest

module _ (Which : Type 0) {Job Answered : Type 0} (same : Job → Job → Bool) (reply_to : Job → Answered) where
  abbrev pub Comes : Buffer Job → Next Which Job Answered → Buffer Job → Type 0
  Comes buffer (Reply place reply) after = (l : Leaves same buffer after) × (reply ≡ reply_to l.slip) × (place ≡ buffer.next)
  Comes buffer (Stranger place) after = after ≡ closed_off buffer
  Comes buffer Closed after = buffer.closed ≡ true
  Comes buffer Waiting after = after ≡ buffer

  meets : (buffer : Buffer Job) (slips : List Job) (answer : Option Job) → buffer.slips ≡ slips → get buffer.answers buffer.next ≡ answer
      → Comes buffer (meeting {Which = Which} same reply_to buffer slips answer).0 (meeting {Which = Which} same reply_to buffer slips answer).1
  meets buffer [] answer is_slips is_answer = refl
  meets buffer (slip ∷ slips) None is_slips is_answer = refl
  meets buffer (slip ∷ slips) (Some answer) is_slips is_answer =
      let out : Bool → Next Which Job Answered × Buffer Job = λ equal. if equal then (Reply buffer.next (reply_to slip), sent_off buffer slips) else (Stranger buffer.next, closed_off buffer) in
      elim (same answer slip) as (λ equal. same answer slip ≡ equal → Comes buffer (out equal).0 (out equal).1) [
        | true ↦ λ is. (record { slip = slip; answer = answer; rest = slips; slips = is_slips; settled_is = is_answer; equal = is; after_is = refl }, refl, refl)
        | false ↦ λ is. refl
      ] refl

  by_closed : (buffer : Buffer Job) (closed : Bool) → buffer.closed ≡ closed
      → (let out : Next Which Job Answered × Buffer Job = if closed then (Closed, buffer) else meeting same reply_to buffer buffer.slips (get buffer.answers buffer.next) in Comes buffer out.0 out.1)
  by_closed buffer true is = is
  by_closed buffer false is = meets buffer buffer.slips (get buffer.answers buffer.next) refl refl

  pub comes : (buffer : Buffer Job) → Comes buffer (next_of {Which = Which} same reply_to buffer).0 (next_of {Which = Which} same reply_to buffer).1
  comes buffer = by_closed buffer buffer.closed refl

module _ {Which Job Answered : Type 0} (same : Job → Job → Bool) (reply_to : Job → Answered) (buffer after : Buffer Job) (out : Next Which Job Answered) (is : (out, after) ≡ next_of {Which = Which} same reply_to buffer) where
  came : Comes Which same reply_to buffer out after
  came = let P : Next Which Job Answered × Buffer Job → Type 0 = λ o. Comes Which same reply_to buffer o.0 o.1 in subst P (sym is) (comes Which same reply_to buffer)

  pub came-reply : (place : ℕ) (reply : Answered) → out ≡ Reply place reply → (l : Leaves same buffer after) × (reply ≡ reply_to l.slip) × (place ≡ buffer.next)
  came-reply place reply e = subst (λ (o : Next Which Job Answered). Comes Which same reply_to buffer o after) e came

  pub came-stranger : (place : ℕ) → out ≡ Stranger place → after ≡ closed_off buffer
  came-stranger place e = subst (λ (o : Next Which Job Answered). Comes Which same reply_to buffer o after) e came

  pub came-waiting : out ≡ Waiting → after ≡ buffer
  came-waiting e = subst (λ (o : Next Which Job Answered). Comes Which same reply_to buffer o after) e came

  pub came-closed : out ≡ Closed → buffer.closed ≡ true
  came-closed e = subst (λ (o : Next Which Job Answered). Comes Which same reply_to buffer o after) e came
