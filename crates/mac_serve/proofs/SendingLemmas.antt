-- How each step leaves the outbound half of a connection.
use Rattle.std.proofs.Common.{◌≡◌, ◌≢◌, inl, inr, Bool, ℕ, ◌+◌, ◌-◌, ◌^◌, ◌<◌, ◌≤◌, min, List, [], ◌∷◌, ◌++◌, length, take, drop, map, refl, sym, ap, subst, ◌∙◌, append_assoc, arith}
use Rattle.std.specs.Prelude.{Option, Some, None, Result, Ok, Err, IsErrAnd, MatchResult, OnOk, slice_get, Contains}
use Rattle.std.specs.FinMap.{get, get-empty}
use Rattle.std.specs.Ordering.{nat_cmp}
use Rattle.std.specs.declared.vec.Vec.{Vec}
use Rattle.std.specs.declared.alloc.Global.{Global}
use Rattle.std.proofs.lemmas.Option.{slice_get-map}
use Rattle.std.specs.Option.{option_map}
use Rattle.mac_queue.specs.Taking.{Taking, with_posts, with_taken}
use Rattle.mac_order.proofs.Releases.{item_is}
use Rattle.std.proofs.lemmas.List.{append-nil, map-append, take-append-le, length-append, length-map, length-take-le, append_cancel_left}
use Rattle.mac_order.specs.Buffer.{Buffer, fresh_buffer, settled, settle_fault, sent_off, closed_off}
use Rattle.mac_order.specs.declared.fault.SettleFault.{SettleFault}
use Rattle.mac_order.specs.Ring.{Exit, received, IsSameOutlet, IsKept}
use Rattle.mac_order.specs.declared.numbered.Numbered.{Numbered}
use Rattle.mac_wire.specs.Frame.{frame, framed}
use Rattle.mac_wire.specs.Reply.{IsReply, placed_payload, payloads_from, reply_frame}
use Rattle.mac_wire.proofs.Wholes.{Fits}
use Rattle.mac_wire.proofs.ReplyText.{payloads-append, length-payloads, payload-at, payloads_fit}
use Rattle.std.specs.List.{All, AllByRecursion}
use Rattle.std.proofs.lemmas.List.Elements.{All-from_recursion}
use Rattle.std.proofs.lemmas.List.Concat.{flat_map-append}
use Rattle.mac_wire.specs.Whole.{HasWhole}
use Rattle.mac_decide.specs.declared.job.Job.{Job}
use Rattle.mac_serve.specs.declared.outbound.Outbound.{Outbound}
use Rattle.mac_serve.specs.declared.outbound.OutboundFault.{OutboundFault}
use Rattle.mac_serve.specs.declared.outbound.OutboundFault.TheVariants as fault
use Rattle.mac_serve.specs.Posts.{TookForeign}
use Rattle.mac_serve.specs.Sending.{answer_to, replies, payloads, IsSame, next, out_text, Holds, Stands, Fell, Sends, CountsWrite, Steps, StepsAlone, SendsAll, Flushes, MeetsStranger, SendsUnsent, SendsBoth}
use Rattle.mac_serve.proofs.Gathered.{gathered-none, gathered-longer, gathered-one, gathered-flushed, gathered-sent, gathered-begins, gathered-cut, gathered-whole}
use Rattle.mac_serve.proofs.Answered.{none-answered, answered-fewer, answered-longer, answered-more, answered-next, took-last, took-other, settle-foreign, waiting-settled, waiting-released}

abbrev Entry : Type 0
Entry = ℕ × Option Job

-- only received jobs were released
released-within : (before : Taking Job) (o : Outbound) → Holds before o → next o ≤ length (received o.ring)
released-within before o h =
    let g = h.gathered in
    let size = ap length g.parts in
    omega (arith, size, length-payloads o.version o.base (replies o), length-map (received o.ring) answer_to, length-append g.out (g.held ++ g.others), length-append g.held g.others, g.is_next)

sent-released : (before : Taking Job) (o : Outbound) → Holds before o → o.sent ≤ next o
sent-released before o h = let g = h.gathered in omega (arith, g.is_sent, g.is_next)

-- a half that has sent nothing
kept-new : (ring : Exit Job Global Numbered) → ring.buffer ≡ fresh_buffer → received ring ≡ [] → IsKept ring
kept-new ring fresh empty =
    let at : ring.buffer.next ≡ 0 = ap (λ (b : Buffer Job). b.next) fresh in
    let none : length (received ring) ≡ 0 = ap length empty in
    record {
      sent = omega (arith, at);
      window = omega (arith, none);
      slips = λ _. ap (λ (b : Buffer Job). b.slips) fresh ∙ sym (ap (λ (n : ℕ). drop n (received ring)) at ∙ empty);
    }

pub stands-new : (o : Outbound) → o.ring.buffer ≡ fresh_buffer → received o.ring ≡ [] → o.sent ≡ 0 → o.written ≡ 0 → o.gathered.items ≡ [] → Stands o.taker o
stands-new o fresh empty sent written none =
    let at : next o ≡ 0 = ap (λ (b : Buffer Job). b.next) fresh in
    record {
      holds = record {
        gathered = rw (at, sent, written, none) (gathered-none (payloads o));
        posts = [];
        taken = ap (λ (l : List Entry). record o.taker { taken = l }) (sym (append-nil o.taker.taken));
        answered = rw at (none-answered (received o.ring));
      };
      kept = kept-new o.ring fresh empty;
      live = ap (λ (b : Buffer Job). b.closed) fresh;
      waiting = λ place job is. absurd (
          let nothing : get o.ring.buffer.answers place ≡ None = ap (λ (b : Buffer Job). get b.answers place) fresh ∙ get-empty nat_cmp place in
          let no : None ≡ Some job = sym nothing ∙ is in cc);
    }

-- more jobs were received
stands-grown : (before : Taking Job) (o : Outbound) (ring : Exit Job Global Numbered) (more : List Job) → Stands before o → IsKept ring
    → received ring ≡ received o.ring ++ more → ring.buffer.next ≡ o.ring.buffer.next → ring.buffer.closed ≡ o.ring.buffer.closed → ring.buffer.answers ≡ o.ring.buffer.answers
    → Stands before (record o { ring = ring }) × (out_text (record o { ring = ring }) ≡ out_text o)
stands-grown before o ring more s kept grown same_next same_closed same_answers =
    let behind : List (List ℕ) = payloads_from o.version (o.base + length (replies o)) (map answer_to more) in
    let longer : payloads_from o.version o.base (map answer_to (received ring)) ≡ payloads o ++ behind =
    ap (payloads_from o.version o.base) (ap (map answer_to) grown ∙ map-append answer_to (received o.ring) more) ∙ payloads-append o.version o.base (replies o) (map answer_to more) in
    let old = gathered-sent (payloads o) (next o) o.sent o.written o.gathered.items s.holds.gathered in
    let g = gathered-longer (payloads o) behind (next o) o.sent o.written o.gathered.items s.holds.gathered in (
      record {
        holds = record {
          gathered = rw (longer, same_next) g;
          posts = s.holds.posts;
          taken = s.holds.taken;
          answered = rw (grown, same_next) (answered-longer (received o.ring) more (next o) s.holds.posts (released-within before o s.holds) s.holds.answered);
        };
        kept = kept;
        live = same_closed ∙ s.live;
        waiting = λ place job is. s.waiting place job (ap (λ a. get a place) (sym same_answers) ∙ is);
      },
      ap (λ (ps : List (List ℕ)). take o.written (framed ps)) longer
          ∙ (gathered-sent (payloads o ++ behind) (next o) o.sent o.written o.gathered.items g).1
          ∙ ap framed (take-append-le o.sent (payloads o) behind old.0) ∙ sym old.1,
    )

-- one post more was taken
posts-more : (before was taken : Taking Job) (posts : List Entry) (post : Entry) → taken ≡ with_taken was post → was ≡ with_posts before posts → taken ≡ with_posts before (posts ++ post ∷ [])
posts-more before was taken posts post one_more is =
    one_more ∙ ap (λ (t : Taking Job). with_taken t post) is
    ∙ ap (λ (l : List Entry). record before { taken = l }) (append_assoc before.taken posts (post ∷ []))

-- an answer was settled
pub stands-settled : (before taken : Taking Job) (o : Outbound) (ring : Exit Job Global Numbered) (place : ℕ) (job : Job) → Stands before o → IsKept ring
    → taken ≡ with_taken o.taker (place, Some job) → received ring ≡ received o.ring → ring.buffer ≡ settled o.ring.buffer place job
    → Stands before (record o { ring = ring; taker = taken })
stands-settled before taken o ring place job s kept one_more same is_settled =
    let posts = s.holds.posts in
    let same_next : ring.buffer.next ≡ next o = ap (λ (b : Buffer Job). b.next) is_settled in
    record {
      holds = record {
        gathered = rw (same, same_next) s.holds.gathered;
        posts = posts ++ (place, Some job) ∷ [];
        taken = posts-more before o.taker taken posts (place, Some job) one_more s.holds.taken;
        answered = rw (same, same_next) (answered-more (received o.ring) (next o) posts ((place, Some job) ∷ []) s.holds.answered);
      };
      kept = kept;
      live = ap (λ (b : Buffer Job). b.closed) is_settled ∙ s.live;
      waiting = λ at other is. waiting-settled o.ring.buffer.answers place job posts s.waiting at other (ap (λ (b : Buffer Job). get b.answers at) (sym is_settled) ∙ is);
    }

-- however a step ended, the half takes from the mailbox that it took from
pub same-mail : {T : Type 0} (before : Taking Job) (r : Result T OutboundFault) (o : Outbound) → Sends before r o → o.taker.mail ≡ before.mail
same-mail before (Ok x) o s = ap (λ (t : Taking Job). t.mail) s.holds.taken
same-mail before (Err why) o fell = ap (λ (t : Taking Job). t.mail) fell.taken

-- the half ends as it holds, after a stranger where one is told
pub fell-with : (before : Taking Job) (o : Outbound) (why : OutboundFault) (h : Holds before o) → (why ≡ fault.Stranger → TookForeign (received o.ring) o.sent h.posts) → Fell before why o
fell-with before o why h foreign =
    let g = h.gathered in
    let frames = gathered-whole (payloads o) (next o) o.sent o.written o.gathered.items g in
    record {
      frames = frames.0;
      within = frames.1;
      whole = λ other. (gathered-sent (payloads o) (next o) o.sent o.written o.gathered.items g).1;
      posts = h.posts;
      taken = h.taken;
      answered = answered-fewer (received o.ring) o.sent (next o) h.posts (sent-released before o h) h.answered;
      foreign = foreign;
    }

pub fell-held : (before : Taking Job) (o : Outbound) (why : OutboundFault) → Holds before o → (why ≡ fault.Stranger → ⊥) → Fell before why o
fell-held before o why h known = fell-with before o why h (λ is. absurd (known is))

-- a post told that memory ran out
pub fell-failed : (before taken : Taking Job) (o : Outbound) (place : ℕ) → Stands before o → taken ≡ with_taken o.taker (place, None)
    → Fell before fault.NoMemory (record o { taker = taken })
fell-failed before taken o place s one_more =
    let posts = s.holds.posts in
    fell-held before (record o { taker = taken }) fault.NoMemory (record {
      gathered = s.holds.gathered;
      posts = posts ++ (place, None) ∷ [];
      taken = posts-more before o.taker taken posts (place, None) one_more s.holds.taken;
      answered = answered-more (received o.ring) (next o) posts ((place, None) ∷ []) s.holds.answered;
    }) (λ is. absurd cc)

-- an answer couldn't be settled
pub fell-unsettled : (before taken : Taking Job) (o : Outbound) (ring : Exit Job Global Numbered) (place : ℕ) (job : Job) (why : SettleFault) → Stands before o
    → taken ≡ with_taken o.taker (place, Some job) → received ring ≡ received o.ring → ring.buffer ≡ o.ring.buffer → settle_fault o.ring.buffer place ≡ Some why
    → Fell before fault.Stranger (record o { ring = ring; taker = taken })
fell-unsettled before taken o ring place job why s one_more same same_buffer is =
    let posts = s.holds.posts in
    let same_next : ring.buffer.next ≡ next o = ap (λ (b : Buffer Job). b.next) same_buffer in
    let now : Outbound = record o { ring = ring; taker = taken } in
    let h : Holds before now = record {
      gathered = rw (same, same_next) s.holds.gathered;
      posts = posts ++ (place, Some job) ∷ [];
      taken = posts-more before o.taker taken posts (place, Some job) one_more s.holds.taken;
      answered = rw (same, same_next) (answered-more (received o.ring) (next o) posts ((place, Some job) ∷ []) s.holds.answered);
    } in
    fell-with before now fault.Stranger h (λ _. rw same (took-last (received o.ring) o.sent posts place job
    (settle-foreign (received o.ring) o.sent o.ring.buffer place job why posts s.live (sent-released before o s.holds) (released-within before o s.holds) s.holds.answered s.waiting is)))

-- the same half, at three times
same-outlet : (a b c : Exit Job Global Numbered) → IsSameOutlet a b → IsSameOutlet b c → IsSameOutlet a c
same-outlet a b c h k = ((k.0.0 ∙ h.0.0, k.0.1 ∙ h.0.1, k.0.2 ∙ h.0.2, k.0.3 ∙ h.0.3), k.1 ∙ h.1)

same-half : (a b c : Outbound) → IsSame a b → IsSame b c → IsSame a c
same-half a b c h k = (same-outlet a.ring b.ring c.ring h.0 k.0, k.1 ∙ h.1, k.2 ∙ h.2)

same-kept : (a b c : Outbound) → IsSame a b → c.ring ≡ b.ring → c.version ≡ b.version → c.base ≡ b.base → IsSame a c
same-kept a b c h ring version base = (subst (λ (l : Exit Job Global Numbered). IsSameOutlet a.ring l) (sym ring) h.0, version ∙ h.1, base ∙ h.2)

-- the slip at the front is the job that was received at the next place
slip-received : (before : Taking Job) (o : Outbound) (slip : Job) (rest : List Job) → Stands before o → o.ring.buffer.slips ≡ slip ∷ rest
    → slice_get (received o.ring) (next o) ≡ Some slip
slip-received before o slip rest s is = item_is (received o.ring) (next o) slip rest (sym (s.kept.slips s.live) ∙ is)

-- a reply was released
pub stands-released : (before : Taking Job) (o : Outbound) (ring : Exit Job Global Numbered) (gathered : Vec ℕ Global) (slip answer : Job) (rest : List Job)
    → Stands before o → IsKept ring → received ring ≡ received o.ring → o.ring.buffer.slips ≡ slip ∷ rest → get o.ring.buffer.answers (next o) ≡ Some answer → answer ≡ slip
    → ring.buffer ≡ sent_off o.ring.buffer rest → gathered.items ≡ o.gathered.items ++ reply_frame o.version (o.base + next o) (answer_to slip)
    → Stands before (record o { ring = ring; gathered = gathered })
stands-released before o ring gathered slip answer rest s kept same slips settled_is equal after more =
    let posts = s.holds.posts in
    let at = slip-received before o slip rest s slips in
    let next_is : ring.buffer.next ≡ next o + 1 = ap (λ (b : Buffer Job). b.next) after in
    let reply_at : slice_get (replies o) (next o) ≡ Some (answer_to slip) = slice_get-map answer_to (received o.ring) (next o) ∙ ap (option_map answer_to) at in
    let payload_at : slice_get (payloads o) (next o) ≡ Some (placed_payload o.version (o.base + next o) (answer_to slip)) =
    payload-at o.version o.base (next o) (replies o) ∙ ap (option_map (placed_payload o.version (o.base + next o))) reply_at in
    let here : Contains posts (next o, Some slip) =
    subst (λ (job : Job). Contains posts (next o, Some job)) equal (s.waiting (next o) answer settled_is) in
    record {
      holds = record {
        gathered = rw (same, next_is) (gathered-one (payloads o) (next o) o.sent o.written o.gathered.items gathered.items (placed_payload o.version (o.base + next o) (answer_to slip)) s.holds.gathered payload_at more);
        posts = posts;
        taken = s.holds.taken;
        answered = rw (same, next_is) (answered-next (received o.ring) (next o) posts slip s.holds.answered at here);
      };
      kept = kept;
      live = ap (λ (b : Buffer Job). b.closed) after;
      waiting = λ place job is. waiting-released o.ring.buffer.answers (next o) posts s.waiting place job (ap (λ (b : Buffer Job). get b.answers place) (sym after) ∙ is);
    }

-- memory ran out for the frame of a reply
pub fell-released : (before : Taking Job) (o : Outbound) (ring : Exit Job Global Numbered) (gathered : Vec ℕ Global) → Stands before o → received ring ≡ received o.ring
    → Fell before fault.NoMemory (record o { ring = ring; gathered = gathered })
fell-released before o ring gathered s same =
    let fell = fell-held before o fault.NoMemory s.holds (λ is. absurd cc) in
    record {
      frames = rw same fell.frames;
      within = rw same fell.within;
      whole = λ other. rw same (fell.whole other);
      posts = fell.posts;
      taken = fell.taken;
      answered = rw same fell.answered;
      foreign = λ is. absurd cc;
    }

-- an answer to another job closed the buffer
pub holds-stranger : (before : Taking Job) (o : Outbound) (ring : Exit Job Global Numbered) (answer job : Job) → Stands before o → received ring ≡ received o.ring
    → ring.buffer ≡ closed_off o.ring.buffer → get o.ring.buffer.answers (next o) ≡ Some answer → slice_get (received o.ring) (next o) ≡ Some job → (job ≡ answer → ⊥)
    → (h : Holds before (record o { ring = ring })) × ((sent : ℕ) → TookForeign (received ring) sent h.posts)
holds-stranger before o ring answer job s same after settled_is at unlike =
    let posts = s.holds.posts in
    let next_is : ring.buffer.next ≡ next o = ap (λ (b : Buffer Job). b.next) after in (
      record {
        gathered = rw (same, next_is) s.holds.gathered;
        posts = posts;
        taken = s.holds.taken;
        answered = rw (same, next_is) s.holds.answered;
      },
      λ sent. rw same (took-other (received o.ring) sent posts (next o) answer job (s.waiting (next o) answer settled_is) at unlike),
    )

-- nothing was released
pub stands-waiting : (before : Taking Job) (o : Outbound) (ring : Exit Job Global Numbered) → Stands before o → IsKept ring → received ring ≡ received o.ring → ring.buffer ≡ o.ring.buffer
    → Stands before (record o { ring = ring })
stands-waiting before o ring s kept same after =
    (stands-grown before o ring [] s kept (same ∙ sym (append-nil (received o.ring)))
    (ap (λ (b : Buffer Job). b.next) after) (ap (λ (b : Buffer Job). b.closed) after) (ap (λ (b : Buffer Job). b.answers) after)).0

-- all that was gathered went out
pub holds-flushed : (before : Taking Job) (o : Outbound) (gathered : Vec ℕ Global) (sent written : ℕ) → Holds before o → gathered.items ≡ [] → sent ≡ next o
    → written ≡ o.written + length o.gathered.items → Holds before (record o { gathered = gathered; sent = sent; written = written })
holds-flushed before o gathered sent written h none sent_is written_is = record {
  gathered = rw (none, sent_is, written_is) (gathered-flushed (payloads o) (next o) o.sent o.written o.gathered.items h.gathered);
  posts = h.posts;
  taken = h.taken;
  answered = h.answered;
}

-- what went out, after a beginning of what was gathered
pub out-grown : (before : Taking Job) (o : Outbound) (written n : ℕ) → Holds before o → n ≤ length o.gathered.items → written ≡ o.written + n
    → take written (framed (payloads o)) ≡ out_text o ++ take n o.gathered.items
out-grown before o written n h within is =
    ap (λ (w : ℕ). take w (framed (payloads o))) is ∙ gathered-begins (payloads o) (next o) o.sent o.written n o.gathered.items h.gathered within

all-fit : ((job : Job) → IsReply (answer_to job)) → (jobs : List Job) → AllByRecursion IsReply (map answer_to jobs)
all-fit fits [] = tt
all-fit fits (job ∷ jobs) = (fits job, all-fit fits jobs)

later-fit : (front back : List (List ℕ)) → AllByRecursion Fits (front ++ back) → AllByRecursion Fits back
later-fit [] back all = all
later-fit (r ∷ rs) back all = later-fit rs back all.1

earlier-fit : (front back : List (List ℕ)) → AllByRecursion Fits (front ++ back) → AllByRecursion Fits front
earlier-fit [] back all = tt
earlier-fit (r ∷ rs) back all = (all.0, earlier-fit rs back all.1)

-- the sink took a beginning of what was gathered
pub fell-cut : (before : Taking Job) (o : Outbound) (bytes : List ℕ) (count whole sent written : ℕ) → Holds before o → ((job : Job) → IsReply (answer_to job))
    → next o < 2 ^ 64 → count < length o.gathered.items → bytes ≡ take count o.gathered.items
    → ((ps : List (List ℕ)) → All Fits ps → bytes ≡ take (length bytes) (framed ps) → HasWhole ps (length bytes) whole)
    → sent ≡ min (o.sent + whole) (2 ^ 64 - 1) → written ≡ o.written + count
    → Fell before fault.Write (record o { sent = sent; written = written })
fell-cut before o bytes count whole sent written h fits bound few is counts sent_is written_is =
    let g = h.gathered in
    let size : length bytes ≡ count = ap length is ∙ length-take-le count o.gathered.items (omega arith) in
    let all = later-fit g.out (g.held ++ g.others) (rw g.parts at (payloads_fit o.version o.base (replies o) (all-fit fits (received o.ring)))) in
    let held : All Fits g.held = All-from_recursion Fits g.held (earlier-fit g.held g.others all) in
    let begins : bytes ≡ take (length bytes) (framed g.held) = is ∙ ap (take count) g.is_gathered ∙ ap (λ (n : ℕ). take n (framed g.held)) (sym size) in
    let has : HasWhole g.held count whole = rw size at (counts g.held held begins) in
    let frames : HasWhole (payloads o) (o.written + count) (o.sent + whole) = gathered-cut (payloads o) (next o) o.sent o.written count whole o.gathered.items g few has in
    let length_held = ap length g.is_gathered in
    let all_text = ap (λ (l : List (List ℕ)). length (framed l)) g.parts in
    let fewer : o.sent + whole ≤ next o = omega (arith, g.is_sent, g.is_next, has.there) in
    let exact : sent ≡ o.sent + whole = sent_is ∙ omega (arith, fewer, bound) in
    record {
      frames = rw (exact, written_is) frames;
      within = rw written_is (omega (
        arith,
        all_text,
        length_held,
        few,
        g.is_written,
        ap length (flat_map-append frame g.out (g.held ++ g.others)),
        length-append (framed g.out) (framed (g.held ++ g.others)),
        ap length (flat_map-append frame g.held g.others),
        length-append (framed g.held) (framed g.others),
      ));
      whole = λ other. absurd (other refl);
      posts = h.posts;
      taken = h.taken;
      answered = rw exact (answered-fewer (received o.ring) (o.sent + whole) (next o) h.posts fewer h.answered);
      foreign = λ no. absurd cc;
    }

-- what was flushed goes on as it stood
stands-held : (before : Taking Job) (o after : Outbound) → Stands before o → Holds before after → after.ring ≡ o.ring → after.taker ≡ o.taker → Stands before after
stands-held before o after s h ring taker =
    let same : h.posts ≡ s.holds.posts = append_cancel_left before.taken h.posts s.holds.posts (ap (λ (t : Taking Job). t.taken) (sym h.taken ∙ taker ∙ s.holds.taken)) in
    record {
      holds = h;
      kept = subst (λ (l : Exit Job Global Numbered). IsKept l) (sym ring) s.kept;
      live = ap (λ (l : Exit Job Global Numbered). l.buffer.closed) ring ∙ s.live;
      waiting = λ place job is. subst (λ (posts : List Entry). Contains posts (place, Some job)) (sym same)
          (s.waiting place job (ap (λ (l : Exit Job Global Numbered). get l.buffer.answers place) (sym ring) ∙ is));
    }

-- what was flushed after a stranger ends with it
fell-stranger : (before : Taking Job) (o after : Outbound) (h : Holds before o) → ((sent : ℕ) → TookForeign (received o.ring) sent h.posts) → Holds before after
    → after.ring ≡ o.ring → after.taker ≡ o.taker → Fell before fault.Stranger after
fell-stranger before o after h took held ring taker =
    let same : held.posts ≡ h.posts = append_cancel_left before.taken held.posts h.posts (ap (λ (t : Taking Job). t.taken) (sym held.taken ∙ taker ∙ h.taken)) in
    fell-with before after fault.Stranger held (λ _. subst (λ (posts : List Entry). TookForeign (received after.ring) after.sent posts) (sym same)
    (subst (λ (l : Exit Job Global Numbered). TookForeign (received l) after.sent h.posts) (sym ring) (took after.sent)))

-- ---- steps

-- a fault that is passed on
sends-residual : {T : Type 0} (earlier : Taking Job) (r : Result T OutboundFault) (why : OutboundFault) (o : Outbound) → IsErrAnd r (λ e. e ≡ why) → Fell earlier why o → Sends earlier r o
sends-residual earlier (Ok x) why o is fell = absurd is
sends-residual earlier (Err e) why o is fell = subst (λ (f : OutboundFault). Fell earlier f o) (sym is) fell

counts-residual : (T U : Type 0) (r : Result U OutboundFault) (why : OutboundFault) (old new : ℕ) → IsErrAnd r (λ e. e ≡ why) → CountsWrite {T = T} (Err why) old new → CountsWrite r old new
counts-residual T U (Ok x) why old new is counts = absurd is
counts-residual T U (Err e) why old new is counts = subst (λ (f : OutboundFault). CountsWrite {T = U} (Err f) old new) (sym is) (same why counts)
  where
    same : (why : OutboundFault) → CountsWrite {T = T} (Err why) old new → CountsWrite {T = U} (Err why) old new
    same fault.Write c = c
    same fault.NoMemory c = c
    same fault.Stranger c = c
    same fault.Exhausted c = c

-- a step, and then another
pub then : {T U : Type 0} {tells : Bool} {w0 w1 w2 : List ℕ} {f0 f1 f2 : ℕ} {x : T} {r : Result U OutboundFault} {a b c : Outbound}
    → Steps tells w0 w1 f0 f1 (Ok x) a b → Steps tells w1 w2 f1 f2 r b c → Steps tells w0 w2 f0 f2 r a c
then {T} {U} {tells} {w0} {w1} {w2} {f0} {f1} {f2} {x} {r} {a} {b} {c} first second = record {
  same = same-half a b c first.same second.same;
  sends = λ earlier s. second.sends earlier (first.sends earlier s);
  written = λ told earlier head s was. second.written told earlier head (first.sends earlier s) (first.written told earlier head s was);
  counts = subst (λ (n : ℕ). CountsWrite r n f2) first.counts second.counts;
}

-- and then one with which all is sent
pub then-all : {T U : Type 0} {tells : Bool} {w0 w1 w2 : List ℕ} {f0 f1 f2 : ℕ} {x : T} {r : Result U OutboundFault} {a b c : Outbound}
    → Steps tells w0 w1 f0 f1 (Ok x) a b → SendsAll tells w1 w2 f1 f2 r b c → SendsAll tells w0 w2 f0 f2 r a c
then-all first second = record { steps = then first second.steps; sent = second.sent }

-- the same step, by whichever value it told its success
pub done : {T U : Type 0} {tells : Bool} {w w' : List ℕ} {f f' : ℕ} {x : T} {y : U} {a b : Outbound} → Steps tells w w' f f' (Ok x) a b → Steps tells w w' f f' (Ok y) a b
done s = record { same = s.same; sends = s.sends; written = s.written; counts = s.counts }

-- a step whose fault is passed on
pub passed-on : {T U : Type 0} {tells : Bool} {w w' : List ℕ} {f f' : ℕ} {why : OutboundFault} {a b : Outbound} (r : Result U OutboundFault)
    → IsErrAnd r (λ e. e ≡ why) → Steps {T = T} tells w w' f f' (Err why) a b → Steps tells w w' f f' r a b
passed-on {T} {U} {tells} {w} {w'} {f} {f'} {why} {a} {b} r is s = record {
  same = s.same;
  sends = λ earlier stands. sends-residual earlier r why b is (s.sends earlier stands);
  written = s.written;
  counts = counts-residual T U r why f f' is s.counts;
}

-- where it failed not all need be sent
pub all-failed : {T U : Type 0} {tells : Bool} {w w' : List ℕ} {f f' : ℕ} {why : OutboundFault} {a b : Outbound} (r : Result U OutboundFault)
    → IsErrAnd r (λ e. e ≡ why) → Steps {T = T} tells w w' f f' (Err why) a b → SendsAll tells w w' f f' r a b
all-failed {T} {U} {tells} {w} {w'} {f} {f'} {why} {a} {b} r is s = record { steps = passed-on r is s; sent = none r is }
  where
    none : (r : Result U OutboundFault) → IsErrAnd r (λ e. e ≡ why) → OnOk r (b.sent ≡ next b)
    none (Ok x) is = absurd is
    none (Err e) is = tt

-- a step that does nothing
pub stays : {T : Type 0} (tells : Bool) (wrote : List ℕ) (faults : ℕ) (x : T) (o : Outbound) → Steps tells wrote wrote faults faults (Ok x) o o
stays tells wrote faults x o = record {
  same = (((refl, refl, refl, refl), refl), refl, refl);
  sends = λ earlier s. s;
  written = λ told earlier head s was. was;
  counts = refl;
}

-- a result that doesn't tell that the sink failed
abbrev pub IsNoWrite : {T : Type 0} → Result T OutboundFault → Type 0
IsNoWrite (Ok x) = Unit {0}
IsNoWrite (Err fault.Write) = ⊥
IsNoWrite (Err fault.NoMemory) = Unit {0}
IsNoWrite (Err fault.Stranger) = Unit {0}
IsNoWrite (Err fault.Exhausted) = Unit {0}

-- a step that leaves the sink alone
pub alone : {T : Type 0} (r : Result T OutboundFault) (a b : Outbound) → IsNoWrite r → IsSame a b → out_text b ≡ out_text a
    → ((earlier : Taking Job) → Stands earlier a → Sends earlier r b) → StepsAlone r a b
alone {T} r a b no_write same out sends tells wrote faults = record {
  same = same;
  sends = sends;
  written = λ told earlier head s was. was ∙ ap (λ (l : List ℕ). head ++ l) (sym out);
  counts = none r no_write;
} where
  none : (r : Result T OutboundFault) → IsNoWrite r → CountsWrite r faults faults
  none (Ok x) is = refl
  none (Err fault.Write) is = absurd is
  none (Err fault.NoMemory) is = refl
  none (Err fault.Stranger) is = refl
  none (Err fault.Exhausted) is = refl

-- where the sink is left alone, and what came through the ring stays, so does what went out
pub out-same : (o : Outbound) (ring : Exit Job Global Numbered) → received ring ≡ received o.ring → out_text (record o { ring = ring }) ≡ out_text o
out-same o ring same = ap (λ (jobs : List Job). take o.written (framed (payloads_from o.version o.base (map answer_to jobs)))) same

-- a step that finds no post
pub took-none : {T : Type 0} (x : T) (o : Outbound) (taken : Taking Job) → taken ≡ o.taker → StepsAlone (Ok x) o (record o { taker = taken })
took-none x o taken same tells wrote faults =
    let P : Taking Job → Type 0 = λ t. Steps tells wrote wrote faults faults (Ok x) o (record o { taker = t }) in
    subst P (sym same) (stays tells wrote faults x o)

-- a step that opens slips
pub grown : {T : Type 0} (x : T) (o : Outbound) (ring : Exit Job Global Numbered) (more : List Job) → IsSameOutlet o.ring ring → IsKept ring
    → received ring ≡ received o.ring ++ more → ring.buffer.next ≡ o.ring.buffer.next → ring.buffer.closed ≡ o.ring.buffer.closed → ring.buffer.answers ≡ o.ring.buffer.answers
    → StepsAlone (Ok x) o (record o { ring = ring })
grown x o ring more same kept is_grown same_next same_closed same_answers tells wrote faults =
    let stands : (earlier : Taking Job) → Stands earlier o → Stands earlier (record o { ring = ring }) × (out_text (record o { ring = ring }) ≡ out_text o) =
    λ earlier s. stands-grown earlier o ring more s kept is_grown same_next same_closed same_answers in
    record {
      same = (same, refl, refl);
      sends = λ earlier s. (stands earlier s).0;
      written = λ told earlier head s was. was ∙ ap (λ (l : List ℕ). head ++ l) (sym (stands earlier s).1);
      counts = refl;
    }

-- what is gathered was written, in a half whose buffer is open
pub flushed : {T : Type 0} {tells : Bool} {w w' : List ℕ} {f f' : ℕ} {r : Result T OutboundFault} {a b : Outbound} → Flushes tells w w' f f' r a b → SendsAll tells w w' f f' r a b
flushed {T} {tells} {w} {w'} {f} {f'} {r} {a} {b} fl = record {
  steps = record {
    same = (subst (λ (l : Exit Job Global Numbered). IsSameOutlet a.ring l) (sym fl.ring) ((refl, refl, refl, refl), refl), fl.version, fl.base);
    sends = λ earlier s. by_result r earlier s (fl.holds earlier s.holds);
    written = λ told earlier head s was. fl.written told earlier head s.holds was;
    counts = fl.counts;
  };
  sent = fl.sent;
} where
  by_result : (r : Result T OutboundFault) (earlier : Taking Job) → Stands earlier a
      → MatchResult r (λ _. Holds earlier b) (λ why. (why ≢ fault.Stranger) × Fell earlier why b) → Sends earlier r b
  by_result (Ok x) earlier s h = stands-held earlier a b s h fl.ring fl.taker
  by_result (Err why) earlier s h = h.1

-- a stranger was met, and what was gathered before it was written or not
pub stranger-met : {T U : Type 0} {tells : Bool} {w w' : List ℕ} {f f' : ℕ} {x : T} {a b c : Outbound} → MeetsStranger a b → Flushes tells w w' f f' (Ok x) b c
    → Steps {T = U} tells w w' f f' (Err fault.Stranger) a c
stranger-met {T} {U} {tells} {w} {w'} {f} {f'} {x} {a} {b} {c} m fl = record {
  same = same-kept a b c m.same fl.ring fl.version fl.base;
  sends = λ earlier s. let h = m.holds earlier s in fell-stranger earlier b c h.0 h.1 (fl.holds earlier h.0) fl.ring fl.taker;
  written = λ told earlier head s was. fl.written told earlier head (m.holds earlier s).0 (was ∙ ap (λ (l : List ℕ). head ++ l) (sym m.out));
  counts = fl.counts;
}

pub stranger-cut : {T : Type 0} {tells : Bool} {w w' : List ℕ} {f f' : ℕ} {why : OutboundFault} {a b c : Outbound} → MeetsStranger a b → Flushes {T = T} tells w w' f f' (Err why) b c
    → Steps {T = T} tells w w' f f' (Err why) a c
stranger-cut {T} {tells} {w} {w'} {f} {f'} {why} {a} {b} {c} m fl = record {
  same = same-kept a b c m.same fl.ring fl.version fl.base;
  sends = λ earlier s. (fl.holds earlier (m.holds earlier s).0).1;
  written = λ told earlier head s was. fl.written told earlier head (m.holds earlier s).0 (was ∙ ap (λ (l : List ℕ). head ++ l) (sym m.out));
  counts = fl.counts;
}

-- the mailbox was closed, which changes nothing
pub closed-after : {T : Type 0} {tells : Bool} {u u' w w' : List ℕ} {f f' : ℕ} {r : Result T OutboundFault} {a b c : Outbound} → SendsBoth tells u u' w w' f f' r a b → c ≡ b → SendsBoth tells u u' w w' f f' r a c
closed-after {T} {tells} {u} {u'} {w} {w'} {f} {f'} {r} {a} {b} {c} s is = subst (λ (o : Outbound). SendsBoth tells u u' w w' f f' r a o) (sym is) s

-- nothing was sent, not even what was unsent
pub sends-nothing : {T : Type 0} (tells : Bool) (u w : List ℕ) (f : ℕ) (why : OutboundFault) (o : Outbound) → (why ≢ fault.Write) → (why ≢ fault.Stranger)
    → SendsBoth {T = T} tells u u w w f f (Err why) o o
sends-nothing {T} tells u w f why o no_write no_stranger = record {
  same = (((refl, refl, refl, refl), refl), refl, refl);
  sends = λ earlier s. fell-held earlier o why s.holds (λ is. no_stranger is);
  sent = tt;
  counts = counts why no_write;
  ahead = [];
  parts = refl;
  all = tt;
  none = inr (refl, refl);
  written = λ told earlier s none. sym (ap (λ (l : List ℕ). w ++ l) none ∙ append-nil w);
} where
  counts : (why : OutboundFault) → (why ≢ fault.Write) → CountsWrite {T = T} (Err why) f f
  counts fault.Write other = absurd (other refl)
  counts fault.NoMemory other = refl
  counts fault.Stranger other = refl
  counts fault.Exhausted other = refl

-- of what was unsent not all went out
pub sends-ahead : {T U : Type 0} {tells : Bool} {u u' w w' : List ℕ} {f f' : ℕ} {why : OutboundFault} (r : Result U OutboundFault) (o : Outbound) → IsErrAnd r (λ e. e ≡ why)
    → SendsUnsent {T = T} tells u u' w w' f f' (Err why) → SendsBoth tells u u' w w' f f' r o o
sends-ahead {T} {U} {tells} {u} {u'} {w} {w'} {f} {f'} {why} r o is s = record {
  same = (((refl, refl, refl, refl), refl), refl, refl);
  sends = λ earlier stands. sends-residual earlier r why o is (fell-held earlier o why stands.holds (λ stranger. let wrote : why ≡ fault.Write = s.all in absurd cc));
  sent = failed r (o.sent ≡ next o) is;
  counts = counts-residual T U r why f f' is s.counts;
  ahead = s.ahead;
  parts = s.parts;
  all = failed r (u' ≡ []) is;
  none = inr (refl, refl);
  written = λ told earlier stands none. s.written told ∙ ap (λ (l : List ℕ). w ++ l) (sym (ap (λ (l : List ℕ). s.ahead ++ l) none ∙ append-nil s.ahead));
} where
  failed : (r : Result U OutboundFault) (P : Type 0) → IsErrAnd r (λ e. e ≡ why) → OnOk r P
  failed (Ok x) P is = absurd is
  failed (Err e) P is = tt

-- all of what was unsent went out, and then the replies
pub sends-both : {T U : Type 0} {tells : Bool} {u u' w0 w1 w2 : List ℕ} {f0 f1 f2 : ℕ} {x : T} {r : Result U OutboundFault} {a b : Outbound}
    → SendsUnsent tells u u' w0 w1 f0 f1 (Ok x) → SendsAll tells w1 w2 f1 f2 r a b → SendsBoth tells u u' w0 w2 f0 f2 r a b
sends-both {T} {U} {tells} {u} {u'} {w0} {w1} {w2} {f0} {f1} {f2} {x} {r} {a} {b} ahead s = record {
  same = s.steps.same;
  sends = s.steps.sends;
  sent = s.sent;
  counts = subst (λ (n : ℕ). CountsWrite r n f2) ahead.counts s.steps.counts;
  ahead = ahead.ahead;
  parts = ahead.parts;
  all = on-ok r ahead.all;
  none = inl ahead.all;
  written = λ told earlier stands none.
      s.steps.written told earlier w1 stands (sym (ap (λ (l : List ℕ). w1 ++ l) none ∙ append-nil w1))
      ∙ ap (λ (l : List ℕ). l ++ out_text b) (ahead.written told) ∙ append_assoc w0 ahead.ahead (out_text b);
} where
  on-ok : (r : Result U OutboundFault) → u' ≡ [] → OnOk r (u' ≡ [])
  on-ok (Ok x) is = is
  on-ok (Err e) is = tt
