-- What serving a connection tells, from what its two halves did.
use Rattle.std.proofs.Common.{◌≡◌, ◌≢◌, inl, inr, ℕ, ◌+◌, ◌≤◌, Bool, true, false, IsTrue, List, [], ◌∷◌, ◌++◌, length, take, drop, map, refl, sym, ap, subst, ◌∙◌, append_assoc, append-nil, arith}
use Rattle.std.specs.Prelude.{Option, Some, None, Result, Ok, Err, OnOk, IfOk, IfSome, IsSome, ◌⊎◌}
use Rattle.std.proofs.lemmas.List.{map-append, take_all, take-append-le, take-append-drop, length-append, length-map, length-take-le}
use Rattle.std.proofs.lemmas.List.Concat.{flat_map-append}
use Rattle.mac_order.specs.Ring.{admitted, received}
use Rattle.mac_queue.specs.Taking.{Taking}
use Rattle.mac_queue.specs.Mail.{Mail}
use Rattle.mac_queue.specs.Putting.{Putting, IsSamePutter}
use Rattle.mac_board.specs.Noticed.{Noticed}
use Rattle.mac_wire.specs.declared.arrival.Arrival.{Arrival}
use Rattle.mac_wire.specs.declared.arrival.Ending.{Ending}
use Rattle.mac_wire.specs.declared.arrival.Ending.TheVariants as ending
use Rattle.mac_wire.specs.declared.reply.Reply.{Reply}
use Rattle.mac_wire.specs.declared.version.Version.{Version}
use Rattle.mac_wire.specs.Frame.{frame, framed, frames_of}
use Rattle.mac_wire.specs.FrameReader.{HasRead, HasEnded}
use Rattle.mac_wire.specs.Session.{HasCome}
use Rattle.mac_wire.specs.declared.frame.FrameReader.{FrameReader}
use Rattle.mac_wire.specs.declared.session.Session.{Session}
use Rattle.mac_wire.specs.Stream.{Arrivals, arrivals_of}
use Rattle.mac_wire.specs.Reply.{payloads_from}
use Rattle.mac_wire.proofs.ReplyText.{length-payloads, payloads-append, payloads-take}
use Rattle.mac_wire.specs.Whole.{HasWhole}
use Rattle.mac_decide.specs.Answer.{answer_of}
use Rattle.mac_decide.specs.Terms.{Terms}
use Rattle.mac_decide.specs.World.{job_under}
use Rattle.mac_decide.specs.declared.rights.Rights.{Rights}
use Rattle.mac_decide.specs.declared.job.Job.{Job}
use Rattle.mac_serve.specs.declared.connection.Served.{Served}
use Rattle.mac_serve.specs.declared.fault.ServeFault.{ServeFault}
use Rattle.mac_serve.specs.declared.fault.ServeFault.TheVariants as fault
use Rattle.mac_serve.specs.declared.inbound.Inbound.{Inbound}
use Rattle.mac_serve.specs.declared.incoming.InboundFault.{InboundFault}
use Rattle.mac_serve.specs.declared.incoming.InboundFault.TheVariants as reading
use Rattle.mac_serve.specs.declared.outbound.Outbound.{Outbound}
use Rattle.mac_serve.specs.declared.outbound.OutboundFault.{OutboundFault}
use Rattle.mac_serve.specs.declared.outbound.OutboundFault.TheVariants as sending
use Rattle.mac_serve.specs.Posts.{AreAnswered, TookForeign}
use Rattle.mac_serve.specs.Receiving.{Gave, CountsRead, Past, IsPast, Ran, TakesIn, TakesSome, IsBehind, Readings, TakesUnder, terms_of, read_of, jobs_of, placed}
use Rattle.mac_serve.specs.Sending.{answer_to, replies, payloads, next, out_text, CountsWrite, Stands, Fell, Sends}
use Rattle.mac_serve.specs.Serving.{answers, text_from, SentAll, SentSome, SentBeginning, Sent, IsLeft, HasServed, MayCount, CountsServed, GoesOnWith, GivesBack, outcome_of}
use Rattle.mac_serve.proofs.Answered.{none-answered, answered-longer, took-longer}
use Rattle.mac_serve.proofs.Gathered.{gathered-none, gathered-whole, whole-longer}
use Rattle.mac_serve.proofs.ReceivingLemmas.{takes-some-all, same-after}
use Rattle.mac_serve.proofs.SendingLemmas.{fell-held}

abbrev Entry : Type 0
Entry = ℕ × Option Job

-- the answers to arrivals are the replies to their jobs
answers-are : (readings : Readings) → map answer_to (jobs_of readings) ≡ answers readings
unfolding answer_of
answers-are [] = refl
answers-are (r ∷ more) = ap (λ (rs : List Reply). answer_of r.0 r.1 ∷ rs) (answers-are more)

-- so many were released
pub released-count : {Job Answered : Type 0} (reply_to : Job → Answered) (jobs : List Job) (n : ℕ) → n ≤ length jobs → length (map reply_to (take n jobs)) ≡ n
released-count reply_to jobs n within = length-map (take n jobs) reply_to ∙ length-take-le n jobs within

-- a run took in some jobs of the arrivals, the first ones
ran-some : (readings : Readings) (unread : List Arrival) (last : Ending) (result : Result Ending InboundFault) (start i : Inbound) → Ran readings unread last result start i
    → TakesSome (jobs_of readings) start i
ran-some readings unread last (Ok end) start i ran = takes-some-all (jobs_of readings) start i ran.0
ran-some readings unread last (Err reading.Read) start i ran = takes-some-all (jobs_of readings) start i ran.0
ran-some readings unread last (Err reading.NoMemory) start i ran = ran
ran-some readings unread last (Err reading.Exhausted) start i ran = ran
ran-some readings unread last (Err reading.Stopped) start i ran = ran

-- what a connection tells
abbrev pub told : Outbound → Inbound → ℕ → Ending → Option Session → Served
told o i count end onward = record {
  arrived = count;
  sent = o.sent;
  written = o.written;
  ending = end;
  desk = record { putter = i.putter; taker = o.taker };
  session = onward;
}

-- where the jobs that an outbound half received are the first of those of these arrivals
module _ (version : Version) (base : ℕ) (readings : Readings) (o : Outbound) (more : List Job) (is : received o.ring ++ more ≡ jobs_of readings)
    (same : o.version ≡ version) (at : o.base ≡ base) where
  -- the frames behind those of the replies to them
  abbrev behind : List (List ℕ)
  behind = payloads_from o.version (o.base + length (replies o)) (map answer_to more)

  longer : payloads_from version base (answers readings) ≡ payloads o ++ behind
  longer =
      ap (λ (v : Version). payloads_from v base (answers readings)) (sym same)
      ∙ ap (λ (n : ℕ). payloads_from o.version n (answers readings)) (sym at)
      ∙ ap (payloads_from o.version o.base) (sym (answers-are readings) ∙ ap (map answer_to) (sym is) ∙ map-append answer_to (received o.ring) more)
      ∙ payloads-append o.version o.base (replies o) (map answer_to more)

  -- a beginning of the answers' frames went out
  beginning : o.written ≤ length (framed (payloads o)) → out_text o ≡ take o.written (text_from version base (answers readings))
  beginning within =
      sym (take-append-le o.written (framed (payloads o)) (framed behind) within)
      ∙ ap (take o.written) (sym (flat_map-append frame (payloads o) behind))
      ∙ ap (λ (ps : List (List ℕ)). take o.written (framed ps)) (sym longer)

  -- the frames of the first answers went out
  some : o.sent ≤ length (payloads o) → out_text o ≡ framed (take o.sent (payloads o)) → out_text o ≡ text_from version base (take o.sent (answers readings))
  some there whole =
      whole ∙ ap framed (sym (take-append-le o.sent (payloads o) behind there))
      ∙ ap (λ (ps : List (List ℕ)). framed (take o.sent ps)) (sym longer)
      ∙ ap framed (payloads-take version base o.sent (answers readings))

  whole_of : o.written ≤ length (framed (payloads o)) → HasWhole (payloads o) o.written o.sent → HasWhole (payloads_from version base (answers readings)) o.written o.sent
  whole_of within frames =
      subst (λ (ps : List (List ℕ)). HasWhole ps o.written o.sent) (sym longer)
      (whole-longer (payloads o) behind o.written o.sent frames within)

  -- no more were sent than received
  sent-received : o.sent ≤ length (payloads o) → o.sent ≤ length (received o.ring)
  sent-received there = omega (arith, there, length-payloads o.version o.base (replies o), length-map (received o.ring) answer_to)

-- What two halves did that ran over one ring, from its beginning: behind what had come before the
-- source gave more of a stream, the sink took what was unsent before and what went out, and the ends
-- met.
module _ (tells_in tells_out : Bool) (AreTaken : List Terms → Type 0) (session : Session) (past : Past) (given given' wrote wrote' stream : List ℕ) (readings : Readings) (unread : List Arrival) (ahead left : List ℕ)
    (putter : Putting Job) (taker : Taking Job) (start i : Inbound) (o : Outbound) (rest : List Job) (count : ℕ) (reader : FrameReader)
    (gave : Gave tells_in given given' stream)
    (taken_are : AreTaken (terms_of readings))
    (came : (arrivals_of (past.read ++ stream)).arrived ≡ past.arrived ++ (read_of readings ++ unread))
    (parts : session.unsent ≡ ahead ++ left)
    (first_out : (left ≡ []) ⊎ (out_text o ≡ []))
    (took : IsTrue tells_out → wrote' ≡ wrote ++ (ahead ++ out_text o))
    (empty : admitted start.ring ≡ [])
    (same_putter : start.putter ≡ putter)
    (met : received o.ring ++ rest ≡ admitted i.ring)
    (counted : count ≡ length (admitted i.ring))
    (same : o.version ≡ (arrivals_of (past.read ++ stream)).version)
    (at : o.base ≡ session.answered) where
  abbrev version : Version
  version = (arrivals_of (past.read ++ stream)).version

  abbrev last : Ending
  last = (arrivals_of (past.read ++ stream)).ending

  abbrev jobs : List Job
  jobs = jobs_of readings

  abbrev IsOnward : Session → Type 0
  IsOnward = GoesOnWith reader left (session.answered + count)

  abbrev Serves : Option ServeFault → Ending → Option Session → Type 0
  Serves why end onward = HasServed tells_in tells_out AreTaken session past given given' wrote wrote' putter taker why (told o i count end onward)

  first : (t : TakesSome jobs start i) → admitted i.ring ≡ take t.count jobs
  first t = t.admitted_is ∙ ap (λ (l : List Job). l ++ take t.count jobs) empty

  goes-on : (t : TakesSome jobs start i) → received o.ring ++ (rest ++ drop t.count jobs) ≡ jobs
  goes-on t =
      sym (append_assoc (received o.ring) rest (drop t.count jobs))
      ∙ ap (λ (l : List Job). l ++ drop t.count jobs) (met ∙ first t) ∙ take-append-drop t.count jobs

  few : (t : TakesSome jobs start i) → count ≤ length readings
  few t =
      let size = ap length (first t) in
      let pieces = ap length (take-append-drop t.count jobs) in
      omega (arith, counted, size, pieces, length-append (take t.count jobs) (drop t.count jobs), length-map readings (λ (r : Terms × Arrival). job_under r.0 r.1))

  -- what is put into an empty ring stands at the places from 0 on
  put-first : (js : List Job) → record start.putter { put = start.putter.put ++ placed start.putter.mail (length (admitted start.ring)) js }
      ≡ record putter { put = putter.put ++ placed putter.mail 0 js }
  put-first js =
      ap (λ (p : Putting Job). record p { put = p.put ++ placed p.mail (length (admitted start.ring)) js }) same_putter
      ∙ ap (λ (l : List Job). record putter { put = putter.put ++ placed putter.mail (length l) js }) empty

  abbrev IsBack : Option ServeFault → Option Session → Type 0
  IsBack why onward = IfSome onward (λ next. (why ≡ Some fault.Read)
      × IsLeft (past.read ++ stream) (past.arrived ++ read_of readings) (session.answered + length readings) next)

  -- what is the same for each fault
  serves : (why : Option ServeFault) (end : Ending) (onward : Option Session) (w : OutboundFault) → Fell taker w o → TakesSome jobs start i
      → (why ≡ Some fault.Stranger → w ≡ sending.Stranger)
      → Sent (arrivals_of (past.read ++ stream)) session.answered readings unread putter (out_text o) left why (told o i count end onward)
      → (why ≡ Some fault.Read → IsSome onward) → IsBack why onward → Serves why end onward
  serves why end onward w fell t strange row kept back =
      let more : List Job = rest ++ drop t.count jobs in
      let is : received o.ring ++ more ≡ jobs = goes-on t in
      record {
        stream = stream;
        gave = gave;
        readings = readings;
        taken_are = taken_are;
        unread = unread;
        came = came;
        ahead = ahead;
        left = left;
        parts = parts;
        output = out_text o;
        behind = first_out;
        took = took;
        written_is = sym (length-take-le o.written (framed (payloads o)) fell.within);
        sent = row;
        whole = whole_of version session.answered readings o more is same at fell.within fell.frames;
        admitted = few t;
        answered_few = (let size = ap length met in
            omega (arith, counted, size, sent-received version session.answered readings o more is same at fell.frames.there, length-append (received o.ring) rest));
        same_putter = subst (λ (p : Putting Job). IsSamePutter p i.putter) same_putter (same-after jobs start i t);
        puts = t.puts;
        put_behind = subst (λ (n : ℕ). IsBehind t.puts n) (sym (counted ∙ ap length (first t) ∙ length-take-le t.count jobs t.there)) t.put_behind;
        put_is = t.put_is ∙ put-first (take t.puts jobs);
        posts = fell.posts;
        taken_is = fell.taken;
        answered = subst (λ (js : List Job). AreAnswered js o.sent fell.posts) is
            (answered-longer (received o.ring) more o.sent fell.posts (sent-received version session.answered readings o more is same at fell.frames.there) fell.answered);
        foreign = λ told. subst (λ (js : List Job). TookForeign js o.sent fell.posts) is
            (took-longer (received o.ring) more o.sent fell.posts (fell.foreign (strange told)));
        kept = kept;
        back = back;
      }

  -- the frames of the first replies went out
  sent-some : (w : OutboundFault) → (w ≢ sending.Write) → Fell taker w o → TakesSome jobs start i → SentSome version session.answered readings (out_text o) (told o i count ending.Broken None)
  sent-some w other fell t = record {
    output_is = some version session.answered readings o (rest ++ drop t.count jobs) (goes-on t) same at fell.frames.there (fell.whole other);
    ending_is = refl;
  }

  -- a beginning of the frames went out
  sent-beginning : (w : OutboundFault) → Fell taker w o → TakesSome jobs start i → SentBeginning version session.answered readings (out_text o) (told o i count ending.Broken None)
  sent-beginning w fell t = record {
    output_is = beginning version session.answered readings o (rest ++ drop t.count jobs) (goes-on t) same at fell.within;
    ending_is = refl;
  }

  all-counted : TakesIn jobs start i → count ≡ length readings
  all-counted t =
      let size = ap length (t.admitted_is ∙ ap (λ (l : List Job). l ++ jobs) empty) in
      omega (arith, counted, size, length-map readings (λ (r : Terms × Arrival). job_under r.0 r.1))

  -- all went out, where all jobs were taken in and each reply was released
  sent-all : (end : Ending) (onward : Option Session) → Fell taker sending.Exhausted o → unread ≡ [] → left ≡ [] → TakesIn jobs start i → o.sent ≡ count
      → SentAll version session.answered readings unread putter (out_text o) left (told o i count end onward)
  sent-all end onward fell read none t sent =
      let s : TakesSome jobs start i = takes-some-all jobs start i t in
      let has : count ≡ length readings = all-counted t in
      record {
        output_is = some version session.answered readings o (rest ++ drop s.count jobs) (goes-on s) same at fell.frames.there (fell.whole (λ is. absurd cc))
            ∙ ap (text_from version session.answered) (take_all o.sent (answers readings) (omega (arith, sent, has, length-map readings (λ (r : Terms × Arrival). answer_of r.0 r.1))));
        none_unread = read;
        none_left = none;
        arrived_is = has;
        sent_is = sent ∙ has;
        put_is = t.put_is ∙ put-first jobs;
      }

  -- where a half that sends fell by another fault than the sink's, or stands and another fault is told
  serves-some : (why : ServeFault) (w : OutboundFault) → (w ≢ sending.Write) → (why ≡ fault.Stranger → w ≡ sending.Stranger) → (why ≢ fault.Read)
      → (SentSome version session.answered readings (out_text o) (told o i count ending.Broken None)
      → Sent (arrivals_of (past.read ++ stream)) session.answered readings unread putter (out_text o) left (Some why) (told o i count ending.Broken None))
      → Fell taker w o → TakesSome jobs start i → Serves (Some why) ending.Broken None
  serves-some why w other strange no_read row fell t =
      serves (Some why) ending.Broken None w fell t (λ is. strange cc) (row (sent-some w other fell t)) (λ is. absurd (no_read cc)) tt

  -- where the half that sends stands, and all is sent
  serves-all : (why : Option ServeFault) (end : Ending) → Stands taker o → unread ≡ [] → left ≡ [] → TakesIn jobs start i → o.sent ≡ count → (why ≢ Some fault.Read) → (why ≢ Some fault.Stranger)
      → (SentAll version session.answered readings unread putter (out_text o) left (told o i count end None)
      → Sent (arrivals_of (past.read ++ stream)) session.answered readings unread putter (out_text o) left why (told o i count end None))
      → Serves why end None
  serves-all why end s read none t sent no_read no_stranger row =
      let fell = fell-held taker o sending.Exhausted s.holds (λ is. absurd cc) in
      serves why end None sending.Exhausted fell (takes-some-all jobs start i t) (λ is. absurd (no_stranger is)) (row (sent-all end None fell read none t sent)) (λ is. absurd (no_read is)) tt

  -- no session is given back
  plainly : (w why : Option ServeFault) (end : Ending) (onward : Option Session) → Serves w end None → (why ≡ w) × (onward ≡ None) → Serves why end onward
  plainly w why end onward plain e =
      subst (λ (n : Option Session). Serves why end n) (sym e.1) (subst (λ (v : Option ServeFault). Serves v end None) (sym e.0) plain)

  -- the source failed where all is sent
  serves-onward : (why : Option ServeFault) (onward : Option Session) → Stands taker o → unread ≡ [] → left ≡ [] → TakesIn jobs start i → o.sent ≡ count
      → HasRead reader (past.read ++ stream) (past.arrived ++ read_of readings) × (HasEnded reader → ⊥)
      → GivesBack IsOnward (Some fault.Read) why onward → Serves why ending.Broken onward
  serves-onward why (Some onward) s read none t sent reads (is, goes) =
      let fell = fell-held taker o sending.Exhausted s.holds (λ is. absurd cc) in
      let row : Serves (Some fault.Read) ending.Broken (Some onward) =
      serves (Some fault.Read) ending.Broken (Some onward) sending.Exhausted fell (takes-some-all jobs start i t) (λ is. absurd cc)
      (sent-all ending.Broken (Some onward) fell read none t sent, refl) (λ _. refl) (
        refl,
        record {
          came = goes.carries (past.read ++ stream) (past.arrived ++ read_of readings) reads.0 reads.1;
          none_unsent = goes.unsent_is ∙ none;
          answered_is = goes.answered_is ∙ ap (λ (n : ℕ). session.answered + n) (all-counted t);
        },
      ) in
      subst (λ (v : Option ServeFault). Serves v ending.Broken (Some onward)) (sym is) row
  serves-onward why None s read none t sent reads (inl is) =
      plainly (Some fault.NoMemory) why ending.Broken None
      (serves-some fault.NoMemory sending.Exhausted (λ is. absurd cc) (λ is. absurd cc) (λ is. absurd cc) (λ row. row) (fell-held taker o sending.Exhausted s.holds (λ is. absurd cc)) (takes-some-all jobs start i t))
      (is, refl)
  serves-onward why None s read none t sent reads (inr is) =
      plainly (Some fault.Exhausted) why ending.Broken None
      (serves-some fault.Exhausted sending.Exhausted (λ is. absurd cc) (λ is. absurd cc) (λ is. absurd cc) (λ row. row) (fell-held taker o sending.Exhausted s.holds (λ is. absurd cc)) (takes-some-all jobs start i t))
      (is, refl)

  held : Stands taker o → Fell taker sending.Exhausted o
  held s = fell-held taker o sending.Exhausted s.holds (λ is. absurd cc)

  -- what is told, case by case of how the halves ended
  rows : {T : Type 0} (sent : Result T OutboundFault) (read : Result Ending InboundFault) (all : Bool) (why : Option ServeFault) (onward : Option Session)
      → Sends taker sent o → OnOk sent (o.sent ≡ next o) → OnOk sent (left ≡ [])
      → Ran readings unread last read start i → (read ≡ Err reading.Read → HasRead reader (past.read ++ stream) (past.arrived ++ read_of readings) × (HasEnded reader → ⊥))
      → (all ≡ true → count ≡ next o)
      → GivesBack IsOnward (outcome_of sent read all).0 why onward → Serves why (outcome_of sent read all).1 onward
  rows (Err sending.Write) read all why onward fell all_sent none ran reads due gives =
      let t = ran-some readings unread last read start i ran in
      plainly (Some fault.Write) why ending.Broken onward
      (serves (Some fault.Write) ending.Broken None sending.Write fell t (λ is. absurd cc) (sent-beginning sending.Write fell t) (λ is. absurd cc) tt) gives
  rows (Err sending.NoMemory) read all why onward fell all_sent none ran reads due gives =
      plainly (Some fault.NoMemory) why ending.Broken onward
      (serves-some fault.NoMemory sending.NoMemory (λ is. absurd cc) (λ is. absurd cc) (λ is. absurd cc) (λ row. row) fell (ran-some readings unread last read start i ran)) gives
  rows (Err sending.Stranger) read all why onward fell all_sent none ran reads due gives =
      plainly (Some fault.Stranger) why ending.Broken onward
      (serves-some fault.Stranger sending.Stranger (λ is. absurd cc) (λ is. refl) (λ is. absurd cc) (λ row. row) fell (ran-some readings unread last read start i ran)) gives
  rows (Err sending.Exhausted) read all why onward fell all_sent none ran reads due gives =
      plainly (Some fault.Exhausted) why ending.Broken onward
      (serves-some fault.Exhausted sending.Exhausted (λ is. absurd cc) (λ is. absurd cc) (λ is. absurd cc) (λ row. row) fell (ran-some readings unread last read start i ran)) gives
  rows (Ok x) (Err reading.NoMemory) all why onward s all_sent none ran reads due gives =
      plainly (Some fault.NoMemory) why ending.Broken onward
      (serves-some fault.NoMemory sending.Exhausted (λ is. absurd cc) (λ is. absurd cc) (λ is. absurd cc) (λ row. row) (held s) ran) gives
  rows (Ok x) (Err reading.Exhausted) all why onward s all_sent none ran reads due gives =
      plainly (Some fault.Exhausted) why ending.Broken onward
      (serves-some fault.Exhausted sending.Exhausted (λ is. absurd cc) (λ is. absurd cc) (λ is. absurd cc) (λ row. row) (held s) ran) gives
  rows (Ok x) (Err reading.Stopped) all why onward s all_sent none ran reads due gives =
      plainly (Some fault.Exhausted) why ending.Broken onward
      (serves-some fault.Exhausted sending.Exhausted (λ is. absurd cc) (λ is. absurd cc) (λ is. absurd cc) (λ row. row) (held s) ran) gives
  rows (Ok x) (Err reading.Read) false why onward s all_sent none ran reads due gives =
      plainly (Some fault.Exhausted) why ending.Broken onward
      (serves-some fault.Exhausted sending.Exhausted (λ is. absurd cc) (λ is. absurd cc) (λ is. absurd cc) (λ row. row) (held s) (takes-some-all jobs start i ran.0)) gives
  rows (Ok x) (Err reading.Read) true why onward s all_sent none ran reads due gives =
      serves-onward why onward s ran.1 none ran.0 (all_sent ∙ sym (due refl)) (reads refl) gives
  rows (Ok x) (Ok end) false why onward s all_sent none ran reads due gives =
      plainly (Some fault.Exhausted) why ending.Broken onward
      (serves-some fault.Exhausted sending.Exhausted (λ is. absurd cc) (λ is. absurd cc) (λ is. absurd cc) (λ row. row) (held s) (takes-some-all jobs start i ran.0)) gives
  rows (Ok x) (Ok ending.Clean) true why onward s all_sent none ran reads due gives =
      plainly None why ending.Clean onward
      (serves-all None ending.Clean s ran.1 none ran.0 (all_sent ∙ sym (due refl)) (λ is. absurd cc) (λ is. absurd cc) (λ row. (row, sym ran.2, inl ran.2))) gives
  rows (Ok x) (Ok ending.Oversize) true why onward s all_sent none ran reads due gives =
      plainly None why ending.Oversize onward
      (serves-all None ending.Oversize s ran.1 none ran.0 (all_sent ∙ sym (due refl)) (λ is. absurd cc) (λ is. absurd cc) (λ row. (row, sym ran.2, inr ran.2))) gives
  rows (Ok x) (Ok ending.Torn) true why onward s all_sent none ran reads due gives =
      plainly (Some fault.Torn) why ending.Torn onward
      (serves-all (Some fault.Torn) ending.Torn s ran.1 none ran.0 (all_sent ∙ sym (due refl)) (λ is. absurd cc) (λ is. absurd cc) (λ row. (row, sym ran.2, ran.2))) gives
  rows (Ok x) (Ok ending.Broken) true why onward s all_sent none ran reads due gives = absurd (ran.3 refl)

  -- the same by the names of what is told
  pub has-served : {T : Type 0} (sent : Result T OutboundFault) (read : Result Ending InboundFault) (all : Bool) (out : Option ServeFault × Ending) (why : Option ServeFault) (onward : Option Session)
      → Sends taker sent o → OnOk sent (o.sent ≡ next o) → OnOk sent (left ≡ []) → Ran readings unread last read start i
      → (read ≡ Err reading.Read → HasRead reader (past.read ++ stream) (past.arrived ++ read_of readings) × (HasEnded reader → ⊥)) → (all ≡ true → count ≡ next o)
      → out ≡ outcome_of sent read all → GivesBack IsOnward out.0 why onward → Serves why out.1 onward
  has-served sent read all out why onward sends all_sent none ran reads due is gives =
      subst (λ (p : Option ServeFault × Ending). Serves why p.1 onward) (sym is)
      (rows sent read all why onward sends all_sent none ran reads due (subst (λ (p : Option ServeFault × Ending). GivesBack IsOnward p.0 why onward) is gives))

-- no reply is no byte
sent-nothing : (v : Version) (place : ℕ) (replies : List Reply) → [] ≡ text_from v place (take 0 replies)
unfolding payloads_from
sent-nothing v place replies = refl

-- what has come of a stream stays its first arrivals
pub come-past : (v : Option Version) (past : Past) (carried : List ℕ) → HasCome v past.read past.arrived carried → IsPast past
come-past None past carried (none, nothing, empty) bytes =
    let more : List Arrival = (arrivals_of (past.read ++ bytes)).arrived in
    (more, ap (λ (l : List Arrival). l ++ more) (sym nothing))
come-past (Some v) past carried (told, are) bytes =
    ((frames_of (carried ++ bytes)).arrived, ap (λ (a : Arrivals). a.arrived) (are bytes))

-- nothing went out, since nothing was written
pub nothing-out : (before after : Outbound) (left : List ℕ) → before.written ≡ 0 → (left ≡ []) ⊎ ((after.written ≡ before.written) × (after.sent ≡ before.sent)) → (left ≡ []) ⊎ (out_text after ≡ [])
nothing-out before after left none (inl is) = inl is
nothing-out before after left none (inr is) = inr (ap (λ (n : ℕ). take n (framed (payloads after))) (is.0 ∙ none))

-- a connection that was not served
pub nothing-served : (rights : Rights) (tells_in tells_out : Bool) (told_keys : Bool) (known : Noticed) (session : Session) (past : Past) (given wrote : List ℕ) (putter : Putting Job) (taker : Taking Job) (served : Served) → IsPast past
    → served ≡ record { arrived = 0; sent = 0; written = 0; ending = ending.Broken; desk = record { putter = putter; taker = taker }; session = None }
    → HasServed tells_in tells_out (TakesUnder rights told_keys known known) session past given given wrote wrote putter taker (Some fault.NoMemory) served
unfolding placed
nothing-served rights tells_in tells_out told_keys known session past given wrote putter taker served is_past is =
    let none : Served = record { arrived = 0; sent = 0; written = 0; ending = ending.Broken; desk = record { putter = putter; taker = taker }; session = None } in
    let more = is_past [] in
    let version : Version = (arrivals_of (past.read ++ [])).version in
    let ps : List (List ℕ) = payloads_from version session.answered (answers []) in
    let has : HasServed tells_in tells_out (TakesUnder rights told_keys known known) session past given given wrote wrote putter taker (Some fault.NoMemory) none = record {
      stream = [];
      gave = λ _. sym (append-nil given);
      readings = [];
      taken_are = refl;
      unread = more.0;
      came = more.1;
      ahead = [];
      left = session.unsent;
      parts = refl;
      output = [];
      behind = inr refl;
      took = λ _. sym (append-nil wrote);
      written_is = refl;
      sent = record { output_is = sent-nothing version session.answered (answers []); ending_is = refl };
      whole = (gathered-whole ps 0 0 0 [] (gathered-none ps)).0;
      admitted = omega arith;
      answered_few = omega arith;
      same_putter = ((refl, refl, refl), refl);
      puts = 0;
      put_behind = inl refl;
      put_is = ap (λ (l : List (Mail × (ℕ × Job))). record putter { put = l }) (sym (append-nil putter.put));
      posts = [];
      taken_is = ap (λ (l : List Entry). record taker { taken = l }) (sym (append-nil taker.taken));
      answered = none-answered [];
      foreign = λ no. absurd cc;
      kept = λ no. absurd cc;
      back = tt;
    } in
    subst (λ (s : Served). HasServed tells_in tells_out (TakesUnder rights told_keys known known) session past given given wrote wrote putter taker (Some fault.NoMemory) s) (sym is) has

-- what the devices counted, where a session is given back or not
pub counts-back : (IsNext : Session → Type 0) (told why : Option ServeFault) (onward : Option Session) (r r' w w' : ℕ) → GivesBack IsNext told why onward → CountsServed told r r' w w' → CountsServed why r r' w w'
counts-back IsNext (Some fault.Read) why (Some next) r r' w w' gives counts = subst (λ (f : Option ServeFault). CountsServed f r r' w w') (sym gives.0) counts
counts-back IsNext (Some fault.Read) why None r r' w w' (inl is) counts = subst (λ (f : Option ServeFault). CountsServed f r r' w w') (sym is) (inr counts.0, counts.1)
counts-back IsNext (Some fault.Read) why None r r' w w' (inr is) counts = subst (λ (f : Option ServeFault). CountsServed f r r' w w') (sym is) (inr counts.0, counts.1)
counts-back IsNext (Some fault.Write) why onward r r' w w' gives counts = subst (λ (f : Option ServeFault). CountsServed f r r' w w') (sym gives.0) counts
counts-back IsNext (Some fault.NoMemory) why onward r r' w w' gives counts = subst (λ (f : Option ServeFault). CountsServed f r r' w w') (sym gives.0) counts
counts-back IsNext (Some fault.Torn) why onward r r' w w' gives counts = subst (λ (f : Option ServeFault). CountsServed f r r' w w') (sym gives.0) counts
counts-back IsNext (Some fault.Stranger) why onward r r' w w' gives counts = subst (λ (f : Option ServeFault). CountsServed f r r' w w') (sym gives.0) counts
counts-back IsNext (Some fault.Exhausted) why onward r r' w w' gives counts = subst (λ (f : Option ServeFault). CountsServed f r r' w w') (sym gives.0) counts
counts-back IsNext None why onward r r' w w' gives counts = subst (λ (f : Option ServeFault). CountsServed f r r' w w') (sym gives.0) counts

-- what the devices counted, by how the halves ended
may-count : (read : Result Ending InboundFault) (r r' : ℕ) → CountsRead read r r' → MayCount r r'
may-count (Ok x) r r' c = inl c
may-count (Err reading.Read) r r' c = inr c
may-count (Err reading.NoMemory) r r' c = inl c
may-count (Err reading.Exhausted) r r' c = inl c
may-count (Err reading.Stopped) r r' c = inl c

pub counts-served : {T : Type 0} (sent : Result T OutboundFault) (read : Result Ending InboundFault) (all : Bool) (r r' w w' : ℕ) → CountsWrite sent w w' → CountsRead read r r'
    → CountsServed (outcome_of sent read all).0 r r' w w'
counts-served (Err sending.Write) read all r r' w w' cw cr = (may-count read r r' cr, cw)
counts-served (Err sending.NoMemory) read all r r' w w' cw cr = (may-count read r r' cr, cw)
counts-served (Err sending.Stranger) read all r r' w w' cw cr = (may-count read r r' cr, cw)
counts-served (Err sending.Exhausted) read all r r' w w' cw cr = (may-count read r r' cr, cw)
counts-served (Ok x) (Err reading.NoMemory) all r r' w w' cw cr = (inl cr, cw)
counts-served (Ok x) (Err reading.Exhausted) all r r' w w' cw cr = (inl cr, cw)
counts-served (Ok x) (Err reading.Stopped) all r r' w w' cw cr = (inl cr, cw)
counts-served (Ok x) (Err reading.Read) true r r' w w' cw cr = (cr, cw)
counts-served (Ok x) (Err reading.Read) false r r' w w' cw cr = (inr cr, cw)
counts-served (Ok x) (Ok end) false r r' w w' cw cr = (inl cr, cw)
counts-served (Ok x) (Ok ending.Clean) true r r' w w' cw cr = (cr, cw)
counts-served (Ok x) (Ok ending.Oversize) true r r' w w' cw cr = (cr, cw)
counts-served (Ok x) (Ok ending.Torn) true r r' w w' cw cr = (cr, cw)
counts-served (Ok x) (Ok ending.Broken) true r r' w w' cw cr = (cr, cw)

-- an ending that is told, and isn't broken, is that of the half that reads
pub ended-told : {T : Type 0} (sent : Result T OutboundFault) (read : Result Ending InboundFault) (all : Bool) (P : Type 0) → IfOk read (λ told. told ≢ ending.Oversize → P)
    → (outcome_of sent read all).1 ≢ ending.Broken → (outcome_of sent read all).1 ≢ ending.Oversize → P
ended-told (Err sending.Write) read all P h whole within = absurd (whole refl)
ended-told (Err sending.NoMemory) read all P h whole within = absurd (whole refl)
ended-told (Err sending.Stranger) read all P h whole within = absurd (whole refl)
ended-told (Err sending.Exhausted) read all P h whole within = absurd (whole refl)
ended-told (Ok x) (Err reading.NoMemory) all P h whole within = absurd (whole refl)
ended-told (Ok x) (Err reading.Exhausted) all P h whole within = absurd (whole refl)
ended-told (Ok x) (Err reading.Stopped) all P h whole within = absurd (whole refl)
ended-told (Ok x) (Err reading.Read) all P h whole within = absurd (whole refl)
ended-told (Ok x) (Ok end) false P h whole within = absurd (whole refl)
ended-told (Ok x) (Ok ending.Clean) true P h whole within = h (λ is. absurd cc)
ended-told (Ok x) (Ok ending.Torn) true P h whole within = h (λ is. absurd cc)
ended-told (Ok x) (Ok ending.Oversize) true P h whole within = absurd (within refl)
ended-told (Ok x) (Ok ending.Broken) true P h whole within = absurd (whole refl)
