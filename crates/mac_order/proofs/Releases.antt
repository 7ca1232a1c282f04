-- What a buffer sends next, as the jobs that its outlet received have it.
use Rattle.std.proofs.Common.{◌≡◌, ℕ, ◌+◌, ◌<◌, Bool, true, false, if◌then◌else◌, List, [], ◌∷◌, ◌++◌, length, map, take, drop, get_or, Option, None, Some, slice_get, sym, ◌∙◌, ap, refl, arith, length-drop}
use Rattle.std.proofs.lemmas.Bool.{false≢true}
use Rattle.std.proofs.lemmas.List.{map-append, append-nil, drop-drop}
use Rattle.std.proofs.lemmas.Option.{slice_get-map, slice_get-get_or}
use Rattle.std.proofs.Math.Seq.{take-add, drop-cons}
use Rattle.std.specs.FinMap.{get}
use Rattle.std.specs.Option.{option_map}
use Rattle.rtrb.specs.declared.consumer.Consumer.{Consumer}
use Rattle.mac_order.specs.Buffer.{Buffer, next_of, meeting, sent_off, closed_off}
use Rattle.mac_order.specs.declared.next.Next.{Next}
use Rattle.mac_order.specs.declared.next.Next.TheVariants.{Reply, Stranger, Closed}
use Rattle.mac_order.specs.Ring.{Exit, IsKept, Releases, received, released, replied}

-- a list whose rest from an index on begins with an item
module _ {Item : Type 0} (items : List Item) (index : ℕ) (item : Item) (rest : List Item) (is : drop index items ≡ item ∷ rest) where
  pub within : index < length items
  within = omega (arith, ap length is, length-drop index items)

  pub rest_is : drop (index + 1) items ≡ rest
  rest_is = sym (drop-drop 1 index items) ∙ ap (drop 1) is

  pub item_is : slice_get items index ≡ Some item
  item_is = slice_get-get_or items index item within ∙ ap (λ (found : List Item). Some (get_or found 0 item)) (sym (drop-cons items index item within) ∙ is)

  pub taken : take (index + 1) items ≡ take index items ++ item ∷ []
  taken = take-add index 1 items ∙ ap (λ (found : List Item). take index items ++ take 1 found) is

-- the outlet of this end of the ring, with this buffer
abbrev pub with : {Job A P : Type 0} → Consumer Job A P → Buffer Job → Exit Job A P
with ring buffer = record { ring = ring; buffer = buffer }

module _ {Which Job Answered A P : Type 0} (same : Job → Job → Bool) (reply_to : Job → Answered) (ring : Consumer Job A P) where
  -- what comes of an outlet with this buffer
  pub record Goes (buffer : Buffer Job) (out : Next Which Job Answered × Buffer Job) : Type 0 where
    pub kept : IsKept (with ring out.1)
    pub releases : Releases same reply_to (with ring buffer) out.0
    pub released : released reply_to (with ring out.1) ≡ released reply_to (with ring buffer) ++ replied out.0

  meets_slip : (buffer : Buffer Job) (slip : Job) (slips : List Job) (answer : Job) (equal : Bool) → same answer slip ≡ equal → IsKept (with ring buffer)
      → drop buffer.next (received (with ring buffer)) ≡ slip ∷ slips → get buffer.answers buffer.next ≡ Some answer
      → Goes buffer (if equal then (Reply buffer.next (reply_to slip), sent_off buffer slips) else (Stranger buffer.next, closed_off buffer))
  meets_slip buffer slip slips answer true equal kept is waits =
      let jobs = received (with ring buffer) in
      record {
        kept = record {
          sent = omega (arith, within jobs buffer.next slip slips is);
          window = omega (arith, kept.window);
          slips = λ live. sym (rest_is jobs buffer.next slip slips is);
        };
        releases = (refl, slice_get-map reply_to jobs buffer.next ∙ ap (option_map reply_to) (item_is jobs buffer.next slip slips is));
        released = ap (map reply_to) (taken jobs buffer.next slip slips is) ∙ map-append reply_to (take buffer.next jobs) (slip ∷ []);
      }
  meets_slip buffer slip slips answer false differ kept is waits = record {
    kept = record { sent = kept.sent; window = kept.window; slips = λ live. absurd (false≢true (sym live)) };
    releases = (refl, record { answer = answer; settled = waits; job = slip; received_is = item_is (received (with ring buffer)) buffer.next slip slips is; unlike = differ });
    released = sym (append-nil (released reply_to (with ring buffer)));
  }

  meets : (buffer : Buffer Job) (slips : List Job) (answer : Option Job) → IsKept (with ring buffer) → drop buffer.next (received (with ring buffer)) ≡ slips → get buffer.answers buffer.next ≡ answer → Goes buffer (meeting same reply_to buffer slips answer)
  meets buffer [] answer kept is waits = record { kept = kept; releases = tt; released = sym (append-nil _) }
  meets buffer (slip ∷ slips) None kept is waits = record { kept = kept; releases = tt; released = sym (append-nil _) }
  meets buffer (slip ∷ slips) (Some answer) kept is waits =
      meets_slip buffer slip slips answer (same answer slip) refl kept is waits

  by_closed : (buffer : Buffer Job) (closed : Bool) → buffer.closed ≡ closed → IsKept (with ring buffer) → Goes buffer (if closed then (Closed, buffer) else meeting same reply_to buffer buffer.slips (get buffer.answers buffer.next))
  by_closed buffer true is kept = record { kept = kept; releases = tt; released = sym (append-nil _) }
  by_closed buffer false is kept = meets buffer buffer.slips (get buffer.answers buffer.next) kept (sym (kept.slips is)) refl

  -- what goes out next
  pub goes : (buffer : Buffer Job) → IsKept (with ring buffer) → Goes buffer (next_of same reply_to buffer)
  goes buffer kept = by_closed buffer buffer.closed refl kept
