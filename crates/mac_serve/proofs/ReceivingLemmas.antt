-- What the inbound half of a connection takes in, step by step.
use Rattle.std.proofs.Common.{rules, ◌≡◌, ◌≢◌, ℕ, ◌+◌, Bool, ◌⊎◌, inl, inr, List, [], ◌∷◌, ◌++◌, length, take, refl, sym, ap, subst, ◌∙◌, append_assoc, append-nil, length-append, arith}
use Rattle.std.specs.Prelude.{Option, Some, None, Result, Ok, Err, OnOk, OnErr, IsErrAnd, MatchResult}
use Rattle.std.specs.declared.alloc.Global.{Global}
use Rattle.std.specs.declared.vec.Vec.{Vec}
use Rattle.std.proofs.Math.Seq.{take-append-add, take-length}
use Rattle.std.proofs.lemmas.List.{map-append}
use Rattle.mac_order.specs.Ring.{admitted, IsSameIntake}
use Rattle.mac_queue.specs.Mail.{Mail}
use Rattle.mac_queue.specs.Putting.{Putting, IsSamePutter, with_put}
use Rattle.mac_board.specs.Noticed.{Current, IsCurrent, Noticed, Notices}
use Rattle.mac_wire.specs.declared.arrival.Arrival.{Arrival}
use Rattle.mac_wire.specs.declared.arrival.Ending.{Ending}
use Rattle.mac_wire.specs.declared.arrival.Ending.TheVariants as ending
use Rattle.mac_wire.specs.declared.frame.FrameReader.{FrameReader}
use Rattle.mac_wire.specs.declared.version.Version.{Version}
use Rattle.mac_wire.specs.Stream.{Arrivals, arrivals_of, version_or_one, version_told}
use Rattle.mac_wire.specs.FrameReader.{HasRead, HasEnded, version_of}
use Rattle.mac_wire.proofs.Opening.{arrived_longer, has_arrived_in, told_is, told_more, told_some, version_tells}
use Rattle.mac_decide.specs.Terms.{Terms}
use Rattle.mac_decide.specs.World.{job_under}
use Rattle.mac_decide.specs.declared.rights.Rights.{Rights}
use Rattle.mac_decide.specs.declared.job.Job.{Job}
use Rattle.mac_serve.specs.declared.incoming.InboundFault.{InboundFault}
use Rattle.mac_serve.specs.declared.incoming.InboundFault.TheVariants as fault
use Rattle.mac_serve.specs.declared.inbound.Inbound.{Inbound}
use Rattle.mac_serve.specs.Receiving.{Gave, IsSameHalf, HasTold, Past, IsPast, Reads, Readings, TakesUnder, terms_of, read_of, jobs_of, placed, IsBehind, TakesIn, TakesSome, Receives, ReceivesUnder, HasRun, GoesOn, Continues, Ran}

placed-append : (mail : Mail) (place : ℕ) (jobs more : List Job) → placed mail place (jobs ++ more) ≡ placed mail place jobs ++ placed mail (place + length jobs) more
unfolding placed
placed-append mail place [] more = ap (λ (n : ℕ). placed mail n more) (omega arith)
placed-append mail place (job ∷ jobs) more =
    ap (λ (l : List (Mail × (ℕ × Job))). (mail, (place, job)) ∷ l) (placed-append mail (place + 1) jobs more
    ∙ ap (λ (n : ℕ). placed mail (place + 1) jobs ++ placed mail n more) (omega arith))

-- the intake of one ring
same-intake : (a b c : Inbound) → IsSameIntake a.ring b.ring → IsSameIntake b.ring c.ring → IsSameIntake a.ring c.ring
same-intake a b c h k = ((k.0.0 ∙ h.0.0, k.0.1 ∙ h.0.1, k.0.2 ∙ h.0.2, k.0.3 ∙ h.0.3), k.1 ∙ h.1)

pub took-nothing : (a : Inbound) → TakesIn [] a a
unfolding placed
took-nothing a = record { same = ((refl, refl, refl, refl), refl); admitted_is = search rules; put_is = search rules }

-- what is put behind these jobs stands behind them
put-more : (jobs more : List Job) (a b : Inbound) → TakesIn jobs a b
    → record b.putter { put = b.putter.put ++ placed b.putter.mail (length (admitted b.ring)) more }
    ≡ record a.putter { put = a.putter.put ++ placed a.putter.mail (length (admitted a.ring)) (jobs ++ more) }
put-more jobs more a b first =
    let before : List (Mail × (ℕ × Job)) = a.putter.put in
    let mail : Mail = a.putter.mail in
    let here : ℕ = length (admitted a.ring) in
    let grown : length (admitted b.ring) ≡ here + length jobs = ap length first.admitted_is ∙ length-append (admitted a.ring) jobs in
    let lists : (before ++ placed mail here jobs) ++ placed mail (length (admitted b.ring)) more ≡ before ++ placed mail here (jobs ++ more) =
    append_assoc before (placed mail here jobs) (placed mail (length (admitted b.ring)) more)
    ∙ ap (λ (l : List (Mail × (ℕ × Job))). before ++ l) (ap (λ (n : ℕ). placed mail here jobs ++ placed mail n more) grown ∙ sym (placed-append mail here jobs more)) in
    ap (λ (p : Putting Job). record p { put = p.put ++ placed p.mail (length (admitted b.ring)) more }) first.put_is
    ∙ ap (λ (l : List (Mail × (ℕ × Job))). record a.putter { put = l }) lists

-- first these jobs, and then those
pub takes-in-more : (jobs more : List Job) (a b c : Inbound) → TakesIn jobs a b → TakesIn more b c → TakesIn (jobs ++ more) a c
takes-in-more jobs more a b c first then = record {
  same = same-intake a b c first.same then.same;
  admitted_is = then.admitted_is ∙ ap (λ (l : List Job). l ++ more) first.admitted_is ∙ append_assoc (admitted a.ring) jobs more;
  put_is = then.put_is ∙ put-more jobs more a b first;
}

-- counts, one of which lies behind the other
behind-more : (n few count : ℕ) → IsBehind few count → IsBehind (n + few) (n + count)
behind-more n few count (inl same) = inl (ap (λ (m : ℕ). n + m) same)
behind-more n few count (inr less) = inr (omega (arith, less))

-- where nothing was put, the pass is as it was
put-nothing : (a : Inbound) → a.putter ≡ record a.putter { put = a.putter.put ++ [] }
put-nothing a = ap (λ (l : List (Mail × (ℕ × Job))). record a.putter { put = l }) (sym (append-nil a.putter.put))

-- nothing was admitted
pub takes-none : (jobs : List Job) (a b : Inbound) → IsSameIntake a.ring b.ring → admitted b.ring ≡ admitted a.ring → b.putter ≡ a.putter → TakesSome jobs a b
unfolding placed
takes-none jobs a b same ring putter = record {
  same = same;
  count = 0;
  there = omega arith;
  admitted_is = ring ∙ search rules;
  puts = 0;
  put_behind = inl refl;
  put_is = putter ∙ put-nothing a;
}

pub takes-some-more : (jobs more : List Job) (a b c : Inbound) → TakesIn jobs a b → TakesSome more b c → TakesSome (jobs ++ more) a c
takes-some-more jobs more a b c first then =
    record {
      same = same-intake a b c first.same then.same;
      count = length jobs + then.count;
      there = omega (arith, then.there, length-append jobs more);
      admitted_is = then.admitted_is ∙ ap (λ (l : List Job). l ++ take then.count more) first.admitted_is
          ∙ append_assoc (admitted a.ring) jobs (take then.count more)
          ∙ ap (λ (l : List Job). admitted a.ring ++ l) (sym (take-append-add jobs more then.count));
      puts = length jobs + then.puts;
      put_behind = behind-more (length jobs) then.puts then.count then.put_behind;
      put_is = then.put_is ∙ put-more jobs (take then.puts more) a b first
          ∙ ap (λ (l : List Job). record a.putter { put = a.putter.put ++ placed a.putter.mail (length (admitted a.ring)) l }) (sym (take-append-add jobs more then.puts));
    }

-- all of the jobs are some of them
pub takes-some-all : (jobs : List Job) (a b : Inbound) → TakesIn jobs a b → TakesSome jobs a b
takes-some-all jobs a b took = record {
  same = took.same;
  count = length jobs;
  there = omega arith;
  admitted_is = took.admitted_is ∙ ap (λ (l : List Job). admitted a.ring ++ l) (sym (take-length jobs));
  puts = length jobs;
  put_behind = inl refl;
  put_is = took.put_is
      ∙ ap (λ (l : List Job). record a.putter { put = a.putter.put ++ placed a.putter.mail (length (admitted a.ring)) l }) (sym (take-length jobs));
}

-- the pass stays one pass
pub same-after : (jobs : List Job) (a b : Inbound) → TakesSome jobs a b → IsSamePutter a.putter b.putter
same-after jobs a b took = (
  (ap (λ (p : Putting Job). p.queue) took.put_is, ap (λ (p : Putting Job). p.seat) took.put_is, ap (λ (p : Putting Job). p.number) took.put_is),
  ap (λ (p : Putting Job). p.mail) took.put_is,
)

-- the half stays that of the same ring and putter
pub same-nothing : (a : Inbound) → IsSameHalf a a
same-nothing a = (((refl, refl, refl, refl), refl), ((refl, refl, refl), refl))

same-putter : (jobs : List Job) (a b c : Inbound) → IsSameHalf a b → TakesSome jobs b c → IsSameHalf a c
same-putter jobs a b c same took =
    let now = same-after jobs b c took in
    let pass = now.0 in
    let was = same.1.0 in
    (same-intake a b c same.0 took.same, ((pass.0 ∙ was.0, pass.1 ∙ was.1, pass.2 ∙ was.2), now.1 ∙ same.1.1))

pub same-received : {T : Type 0} (jobs : List Job) (r : Result T InboundFault) (a b c : Inbound) → IsSameHalf a b → Receives jobs r b c → IsSameHalf a c
same-received jobs (Ok x) a b c same took = same-putter jobs a b c same (takes-some-all jobs b c took)
same-received jobs (Err why) a b c same took = same-putter jobs a b c same took.1

-- a job that was admitted, and put or not
pub receives-put : {T : Type 0} (result : Result T InboundFault) (job : Job) (place : ℕ) (before mid after : Inbound)
    → IsSameIntake before.ring mid.ring → result ≢ Err fault.Read → admitted mid.ring ≡ admitted before.ring ++ job ∷ [] → mid.putter ≡ before.putter → after.ring ≡ mid.ring → place ≡ length (admitted before.ring)
    → OnOk result (after.putter ≡ with_put mid.putter (place, job)) → OnErr result (after.putter ≡ mid.putter)
    → Receives (job ∷ []) result before after
unfolding placed
receives-put (Ok x) job place before mid after same no_read is_admitted is_putter is_ring is_place put kept = record {
  same = rw is_ring same;
  admitted_is = ap admitted is_ring ∙ is_admitted;
  put_is = put ∙ ap (λ (p : Putting Job). with_put p (place, job)) is_putter ∙ ap (λ (n : ℕ). with_put before.putter (n, job)) is_place;
}
receives-put (Err why) job place before mid after same no_read is_admitted is_putter is_ring is_place put kept = (
  λ is. no_read (ap Err is),
  record {
    same = rw is_ring same;
    count = 1;
    there = omega arith;
    admitted_is = ap admitted is_ring ∙ is_admitted;
    puts = 0;
    put_behind = inr refl;
    put_is = kept ∙ is_putter ∙ put-nothing before;
  },
)

err-not-ok : {T : Type 0} (r : Result T InboundFault) (why : InboundFault) (P : Type 0) → IsErrAnd r (λ e. e ≡ why) → OnOk r P
err-not-ok (Ok x) why P is = absurd is
err-not-ok (Err e) why P is = tt

pub receives-residual : {T : Type 0} (jobs : List Job) (r : Result T InboundFault) (why : InboundFault) (a b : Inbound)
    → IsErrAnd r (λ e. e ≡ why) → why ≢ fault.Read → TakesSome jobs a b → Receives jobs r a b
receives-residual jobs (Ok x) why a b is other some = absurd is
receives-residual jobs (Err e) why a b is other some = (λ read. other (sym is ∙ read), some)

-- the jobs of arrivals and of more
jobs-append : (readings more : Readings) → jobs_of (readings ++ more) ≡ jobs_of readings ++ jobs_of more
jobs-append readings more = map-append (λ (r : Terms × Arrival). job_under r.0 r.1) readings more

pub read-append : (readings more : Readings) → read_of (readings ++ more) ≡ read_of readings ++ read_of more
read-append readings more = map-append (λ (r : Terms × Arrival). r.1) readings more

terms-append : (readings more : Readings) → terms_of (readings ++ more) ≡ terms_of readings ++ terms_of more
terms-append readings more = map-append (λ (r : Terms × Arrival). r.0) readings more

-- arrivals that were taken in, each under the table that a look came to
pub record HasTaken (AreTaken : List Terms → Type 0) (arrivals : List Arrival) (before after : Inbound) : Type 0 where
  pub readings : Readings
  pub are : read_of readings ≡ arrivals
  pub taken : AreTaken (terms_of readings)
  pub took : TakesIn (jobs_of readings) before after

pub has-taken-none : (rights : Rights) (tells : Bool) (known : Noticed) (a : Inbound) → HasTaken (TakesUnder rights tells known known) [] a a
has-taken-none rights tells known a = record { readings = []; are = refl; taken = refl; took = took-nothing a }

-- terms that were taken, and others after them
under-more : (rights : Rights) (tells : Bool) (a b c : Noticed) (terms more : List Terms) → TakesUnder rights tells a b terms → TakesUnder rights tells b c more → TakesUnder rights tells a c (terms ++ more)
under-more rights tells a b c [] more first then = subst (λ (k : Noticed). TakesUnder rights tells k c more) first then
under-more rights tells a b c (t ∷ terms) more (now, looks, up, right, first) then = (now, looks, up, right, under-more rights tells now b c terms more first then)

-- what is answered under a table and at a moment, with these rights
abbrev pub under : Rights → Current → Terms
under rights current = record { table = current.table; rights = rights; moment = current.moment }

-- a look at the tables and the clock, and the arrival that was read then
looked-next : (rights : Rights) (tells : Bool) (begun known now : Noticed) (readings : Readings) (current : Current) (arrival : Arrival) → TakesUnder rights tells begun known (terms_of readings) → Notices tells known now → IsCurrent now current
    → TakesUnder rights tells begun now (terms_of (readings ++ (under rights current, arrival) ∷ []))
looked-next rights tells begun known now readings current arrival taken looks up =
    subst (TakesUnder rights tells begun now) (sym (terms-append readings ((under rights current, arrival) ∷ [])))
    (under-more rights tells begun known now (terms_of readings) (under rights current ∷ []) taken (now, looks, up, refl, refl))

-- one more arrival
pub takes-in-next : (rights : Rights) (tells : Bool) (begun known now : Noticed) (current : Current) (front : List Arrival) (arrival : Arrival) (a b c : Inbound)
    → HasTaken (TakesUnder rights tells begun known) front a b → Notices tells known now → IsCurrent now current → TakesIn (job_under (under rights current) arrival ∷ []) b c → HasTaken (TakesUnder rights tells begun now) (front ++ arrival ∷ []) a c
takes-in-next rights tells begun known now current front arrival a b c first looks up then = record {
  readings = first.readings ++ (under rights current, arrival) ∷ [];
  are = read-append first.readings ((under rights current, arrival) ∷ []) ∙ ap (λ (l : List Arrival). l ++ arrival ∷ []) first.are;
  taken = looked-next rights tells begun known now first.readings current arrival first.taken looks up;
  took = subst (λ (jobs : List Job). TakesIn jobs a c) (sym (jobs-append first.readings ((under rights current, arrival) ∷ [])))
      (takes-in-more (jobs_of first.readings) (job_under (under rights current) arrival ∷ []) a b c first.took then);
}

-- one more arrival, that was not taken in whole
pub takes-some-next : {T : Type 0} (rights : Rights) (tells : Bool) (begun known now : Noticed) (current : Current) (front : List Arrival) (arrival : Arrival) (rest all : List Arrival) (r : Result T InboundFault) (why : InboundFault) (a b c : Inbound)
    → front ++ arrival ∷ rest ≡ all → IsErrAnd r (λ e. e ≡ why)
    → HasTaken (TakesUnder rights tells begun known) front a b → Notices tells known now → IsCurrent now current → why ≢ fault.Read → TakesSome (job_under (under rights current) arrival ∷ []) b c
    → ReceivesUnder (TakesUnder rights tells begun now) all r a c
takes-some-next {T} rights tells begun known now current front arrival rest all r why a b c is err first looks up no_read then =
    let next : Readings = (under rights current, arrival) ∷ [] in
    let some = takes-some-more (jobs_of first.readings) (job_under (under rights current) arrival ∷ []) a b c first.took then in
    record {
      readings = first.readings ++ next;
      unread = rest;
      are = sym is ∙ sym (append_assoc front (arrival ∷ []) rest)
          ∙ ap (λ (l : List Arrival). l ++ rest) (ap (λ (l : List Arrival). l ++ arrival ∷ []) (sym first.are) ∙ sym (read-append first.readings next));
      taken = looked-next rights tells begun known now first.readings current arrival first.taken looks up;
      all = err-not-ok r why (rest ≡ []) err;
      receives = receives-residual (jobs_of (first.readings ++ next)) r why a c err no_read (subst (λ (jobs : List Job). TakesSome jobs a c) (sym (jobs-append first.readings next)) some);
    }

abbrev pub done : {T : Type 0} → T → Result T InboundFault
done x = Ok x

-- all arrivals were taken in
pub takes-all : {T : Type 0} (AreTaken : List Terms → Type 0) (arrivals : List Arrival) (x : T) (a b : Inbound) → HasTaken AreTaken arrivals a b
    → ReceivesUnder AreTaken arrivals (done x) a b
takes-all {T} AreTaken arrivals x a b h = record {
  readings = h.readings;
  unread = [];
  are = sym h.are ∙ sym (append-nil (read_of h.readings));
  taken = h.taken;
  all = refl;
  receives = h.took;
}

gave-more : (tells : Bool) (a b c first then : List ℕ) → Gave tells a b first → Gave tells b c then → Gave tells a c (first ++ then)
gave-more tells a b c first then one two told = two told ∙ ap (λ (l : List ℕ). l ++ then) (one told) ∙ append_assoc a first then

gave-nothing : (tells : Bool) (a b c bytes : List ℕ) → Gave tells a b bytes → Gave tells b c [] → Gave tells a c bytes
gave-nothing tells a b c bytes one two told = two told ∙ ap (λ (l : List ℕ). l ++ []) (one told) ∙ search rules

-- what a reader handed out of which all was taken in
all-read : (tells : Bool) (AreTaken : List Terms → Type 0) (version : Version) (past : Past) (given given' : List ℕ) (reader : FrameReader) (a b : Inbound)
    → (on : GoesOn tells AreTaken version past given given' reader [] a b) → HasRead reader (past.read ++ on.stream) (past.arrived ++ read_of on.readings)
all-read tells AreTaken version past given given' reader a b on =
    subst (λ (l : List Arrival). HasRead reader (past.read ++ on.stream) (past.arrived ++ l)) (append-nil (read_of on.readings)) on.read

-- the arrivals so far are those that were handed out
all-arrived : (reader : FrameReader) (stream : List ℕ) (handed : List Arrival) → HasRead reader stream handed → (arrivals_of stream).arrived ≡ handed
all-arrived reader stream handed read = has_arrived_in reader.version reader.stage stream handed read

-- where all jobs were taken in, a run may end by any fault
gave-up : (readings : Readings) (end : Ending) (a b : Inbound) (why : InboundFault) → TakesIn (jobs_of readings) a b → Ran readings [] end (Err why) a b
gave-up readings end a b fault.Read all = (all, refl)
gave-up readings end a b fault.NoMemory all = takes-some-all (jobs_of readings) a b all
gave-up readings end a b fault.Exhausted all = takes-some-all (jobs_of readings) a b all
gave-up readings end a b fault.Stopped all = takes-some-all (jobs_of readings) a b all

-- and where some were, by any but that of the source
gave-up-some : (readings : Readings) (unread : List Arrival) (end : Ending) (a b : Inbound) (why : InboundFault) → why ≢ fault.Read → TakesSome (jobs_of readings) a b
    → Ran readings unread end (Err why) a b
gave-up-some readings unread end a b fault.Read no_read some = absurd (no_read refl)
gave-up-some readings unread end a b fault.NoMemory no_read some = some
gave-up-some readings unread end a b fault.Exhausted no_read some = some
gave-up-some readings unread end a b fault.Stopped no_read some = some

abbrev failed : InboundFault → Result Ending InboundFault
failed why = Err why

same-fault : (why other : InboundFault) → failed why ≡ failed other → why ≡ other
same-fault why other is = cc

-- a run that is given up where nothing more came
gives-up-there : (tells : Bool) (AreTaken : List Terms → Type 0) (version : Version) (past : Past) (given mid given' : List ℕ) (reader reader' : FrameReader) (a b : Inbound) (why : InboundFault)
    → (on : GoesOn tells AreTaken version past given mid reader [] a b) → Gave tells mid given' []
    → (why ≡ fault.Read → HasRead reader' (past.read ++ on.stream) (past.arrived ++ read_of on.readings) × (HasEnded reader' → ⊥)) → HasRun tells AreTaken version past given given' reader' (Err why) a b
gives-up-there tells AreTaken version past given mid given' reader reader' a b why on nothing left =
    record {
      stream = on.stream;
      gave = gave-nothing tells given mid given' on.stream on.gave nothing;
      version_is = told_some (past.read ++ on.stream) version on.told;
      readings = on.readings;
      taken = on.taken;
      unread = [];
      came = all-arrived reader (past.read ++ on.stream) (past.arrived ++ (read_of on.readings ++ [])) on.read;
      ran = gave-up on.readings (arrivals_of (past.read ++ on.stream)).ending a b why on.took;
      left = λ is. left (same-fault why fault.Read is);
    }

-- the outbound half had ended
pub gives-up : (tells : Bool) (AreTaken : List Terms → Type 0) (version : Version) (past : Past) (given given' : List ℕ) (reader : FrameReader) (a b : Inbound) (why : InboundFault)
    → GoesOn tells AreTaken version past given given' reader [] a b → (why ≢ fault.Read) → HasRun tells AreTaken version past given given' reader (Err why) a b
gives-up tells AreTaken version past given given' reader a b why on no_read =
    gives-up-there tells AreTaken version past given given' given' reader reader a b why on (λ told. sym (append-nil given')) (λ is. absurd (no_read is))

-- how a read of a run ended
pub goes-further : (tells : Bool) (AreTaken : List Terms → Type 0) (version : Version) (past : Past) (given mid given' : List ℕ) (reader reader' : FrameReader) (a b : Inbound)
    (result : Result (Option (Vec Arrival Global)) InboundFault) → GoesOn tells AreTaken version past given mid reader [] a b
    → ((stream : List ℕ) (handed : List Arrival) → HasRead reader stream handed → Reads tells mid given' stream handed result reader')
    → Continues tells AreTaken version past given given' result reader' a b
goes-further tells AreTaken version past given mid given' reader reader' a b result on reads =
    by_result result (reads (past.read ++ on.stream) (past.arrived ++ read_of on.readings) (all-read tells AreTaken version past given mid reader a b on))
  where
    by_result : (result : Result (Option (Vec Arrival Global)) InboundFault) → Reads tells mid given' (past.read ++ on.stream) (past.arrived ++ read_of on.readings) result reader'
        → Continues tells AreTaken version past given given' result reader' a b
    by_result (Ok (Some more)) (bytes, gave, told, read) =
        record {
          stream = on.stream ++ bytes;
          gave = gave-more tells given mid given' on.stream bytes on.gave gave;
          told = subst (λ (l : List ℕ). version_told l ≡ Some version) (append_assoc past.read on.stream bytes) (told_more (past.read ++ on.stream) bytes version on.told);
          readings = on.readings;
          taken = on.taken;
          read = subst (λ (l : List Arrival). HasRead reader' (past.read ++ (on.stream ++ bytes)) l) (append_assoc past.arrived (read_of on.readings) more.items)
              (subst (λ (l : List ℕ). HasRead reader' l ((past.arrived ++ read_of on.readings) ++ more.items)) (append_assoc past.read on.stream bytes) read);
          took = on.took;
        }
    by_result (Ok None) (nothing, read) =
        record {
          stream = on.stream;
          gave = gave-nothing tells given mid given' on.stream on.gave nothing;
          told = on.told;
          readings = on.readings;
          taken = on.taken;
          read = subst (λ (l : List Arrival). HasRead reader' (past.read ++ on.stream) (past.arrived ++ l)) (sym (append-nil (read_of on.readings))) read;
          took = on.took;
        }
    by_result (Err fault.Read) (nothing, read, goes_on) = gives-up-there tells AreTaken version past given mid given' reader reader' a b fault.Read on nothing (λ _. (read, goes_on))
    by_result (Err fault.NoMemory) (bytes, gave, told) =
        let (rest, is) = arrived_longer reader.version reader.stage (past.read ++ on.stream) bytes (past.arrived ++ read_of on.readings) (all-read tells AreTaken version past given mid reader a b on) in
        let assoc = append_assoc past.read on.stream bytes in
        record {
          stream = on.stream ++ bytes;
          gave = gave-more tells given mid given' on.stream bytes on.gave gave;
          version_is = ap (λ (l : List ℕ). (arrivals_of l).version) (sym assoc) ∙ told_some ((past.read ++ on.stream) ++ bytes) version (told_more (past.read ++ on.stream) bytes version on.told);
          readings = on.readings;
          taken = on.taken;
          unread = rest;
          came = ap (λ (l : List ℕ). (arrivals_of l).arrived) (sym assoc) ∙ is ∙ append_assoc past.arrived (read_of on.readings) rest;
          ran = takes-some-all (jobs_of on.readings) a b on.took;
          left = λ no. absurd cc;
        }
    by_result (Err fault.Exhausted) (nothing, told) = gives-up-there tells AreTaken version past given mid given' reader reader' a b fault.Exhausted on nothing (λ is. absurd cc)
    by_result (Err fault.Stopped) reads = absurd reads

-- the jobs of these readings were taken in, and then those of more
receives-more : {T : Type 0} (readings more : Readings) (r : Result T InboundFault) (a b c : Inbound) → TakesIn (jobs_of readings) a b → Receives (jobs_of more) r b c
    → Receives (jobs_of (readings ++ more)) r a c
receives-more readings more (Ok x) a b c first then =
    subst (λ (jobs : List Job). TakesIn jobs a c) (sym (jobs-append readings more)) (takes-in-more (jobs_of readings) (jobs_of more) a b c first then)
receives-more readings more (Err why) a b c first (no_read, some) =
    (no_read, subst (λ (jobs : List Job). TakesSome jobs a c) (sym (jobs-append readings more)) (takes-some-more (jobs_of readings) (jobs_of more) a b c first some))

-- what was handed out was read, all of it or some, and its jobs were taken in
goes-by : {T : Type 0} (tells : Bool) (AreTaken : List Terms → Type 0) (version : Version) (past : Past) (given given' : List ℕ) (reader : FrameReader) (a c : Inbound) (stream : List ℕ)
    (readings : Readings) (unread : List Arrival) (r : Result T InboundFault)
    → Gave tells given given' stream → version_told (past.read ++ stream) ≡ Some version → AreTaken (terms_of readings)
    → HasRead reader (past.read ++ stream) (past.arrived ++ (read_of readings ++ unread)) → OnOk r (unread ≡ []) → Receives (jobs_of readings) r a c
    → MatchResult r (λ _. GoesOn tells AreTaken version past given given' reader [] a c) (λ why. HasRun tells AreTaken version past given given' reader (Err why) a c)
goes-by {T} tells AreTaken version past given given' reader a c stream readings unread (Ok x) gave told taken read all took =
    record {
      stream = stream;
      gave = gave;
      told = told;
      readings = readings;
      taken = taken;
      read = subst (λ (l : List Arrival). HasRead reader (past.read ++ stream) (past.arrived ++ (read_of readings ++ l))) all read;
      took = took;
    }
goes-by {T} tells AreTaken version past given given' reader a c stream readings unread (Err why) gave told taken read all (no_read, took) =
    record {
      stream = stream;
      gave = gave;
      version_is = told_some (past.read ++ stream) version told;
      readings = readings;
      taken = taken;
      unread = unread;
      came = all-arrived reader (past.read ++ stream) (past.arrived ++ (read_of readings ++ unread)) read;
      ran = gave-up-some readings unread (arrivals_of (past.read ++ stream)).ending a c why no_read took;
      left = λ is. absurd (no_read (same-fault why fault.Read is));
    }

-- the arrivals that were pending are taken in, all or some, by more looks
pub goes-received : {T : Type 0} (rights : Rights) (tells told : Bool) (begun known now : Noticed) (version : Version) (past : Past) (given given' : List ℕ) (reader : FrameReader) (pending : List Arrival) (a b c : Inbound) (r : Result T InboundFault)
    → GoesOn tells (TakesUnder rights told begun known) version past given given' reader pending a b → ReceivesUnder (TakesUnder rights told known now) pending r b c
    → MatchResult r (λ _. GoesOn tells (TakesUnder rights told begun now) version past given given' reader [] a c) (λ why. HasRun tells (TakesUnder rights told begun now) version past given given' reader (Err why) a c)
goes-received {T} rights tells told begun known now version past given given' reader pending a b c r on got =
    let taken : TakesUnder rights told begun now (terms_of (on.readings ++ got.readings)) =
    subst (TakesUnder rights told begun now) (sym (terms-append on.readings got.readings)) (under-more rights told begun known now (terms_of on.readings) (terms_of got.readings) on.taken got.taken) in
    let parts : (read_of on.readings ++ pending) ≡ read_of (on.readings ++ got.readings) ++ got.unread =
    ap (λ (l : List Arrival). read_of on.readings ++ l) got.are ∙ sym (append_assoc (read_of on.readings) (read_of got.readings) got.unread)
    ∙ ap (λ (l : List Arrival). l ++ got.unread) (sym (read-append on.readings got.readings)) in
    goes-by tells (TakesUnder rights told begun now) version past given given' reader a c on.stream (on.readings ++ got.readings) got.unread r on.gave on.told taken
    (subst (λ (l : List Arrival). HasRead reader (past.read ++ on.stream) (past.arrived ++ l)) parts on.read) got.all
    (receives-more on.readings got.readings r a b c on.took got.receives)

-- a run whose stream has ended
pub has-finished : (tells : Bool) (AreTaken : List Terms → Type 0) (version : Version) (past : Past) (given given' : List ℕ) (reader reader' : FrameReader) (a b : Inbound) (end : Ending)
    → GoesOn tells AreTaken version past given given' reader [] a b
    → ((stream : List ℕ) (handed : List Arrival) → HasRead reader stream handed
    → arrivals_of stream ≡ record { version = version_or_one reader.version; arrived = handed; ending = end })
    → ((stream : List ℕ) (handed : List Arrival) → HasRead reader stream handed → end ≢ ending.Broken)
    → HasRun tells AreTaken version past given given' reader' (Ok end) a b
has-finished tells AreTaken version past given given' reader reader' a b end on ends whole =
    let read = all-read tells AreTaken version past given given' reader a b on in
    let is = ends (past.read ++ on.stream) (past.arrived ++ read_of on.readings) read in
    record {
      stream = on.stream;
      gave = on.gave;
      version_is = told_some (past.read ++ on.stream) version on.told;
      readings = on.readings;
      taken = on.taken;
      unread = [];
      came = ap (λ (x : Arrivals). x.arrived) is ∙ ap (λ (l : List Arrival). past.arrived ++ l) (sym (append-nil (read_of on.readings)));
      ran = (on.took, refl, ap (λ (x : Arrivals). x.ending) is, whole (past.read ++ on.stream) (past.arrived ++ read_of on.readings) read);
      left = λ no. absurd cc;
    }

-- ---- the first piece

-- the version that the reader knows is that of the stream
known-version : (reader : FrameReader) (stream : List ℕ) → HasTold reader stream → (arrivals_of stream).version ≡ version_or_one (version_of reader)
known-version reader stream told = sym (told_is stream) ∙ ap version_or_one (sym told)

-- a first piece came
pub begins : (rights : Rights) (tells told_keys : Bool) (known : Noticed) (past : Past) (given given' : List ℕ) (reader : FrameReader) (a : Inbound) (more : Vec Arrival Global)
    → Reads tells given given' past.read past.arrived (Ok (Some more)) reader → GoesOn tells (TakesUnder rights told_keys known known) (version_or_one (version_of reader)) past given given' reader more.items a a
begins rights tells told_keys known past given given' reader a more (bytes, gave, (version, told), read) =
    let is : reader.version ≡ Some version = version_tells reader.version reader.stage (past.read ++ bytes) (past.arrived ++ more.items) read ∙ told in
    record {
      stream = bytes;
      gave = gave;
      told = told ∙ ap Some (sym (ap version_or_one is));
      readings = [];
      taken = refl;
      read = read;
      took = took-nothing a;
    }

-- a run that took nothing in of what came
took-none-of : (rights : Rights) (tells told_keys : Bool) (known : Noticed) (past : Past) (given given' : List ℕ) (reader reader' : FrameReader) (a : Inbound) (why : InboundFault) (bytes : List ℕ) → IsPast past
    → Gave tells given given' bytes → HasTold reader (past.read ++ bytes) → why ≢ fault.Read → HasRun tells (TakesUnder rights told_keys known known) (version_or_one (version_of reader)) past given given' reader' (Err why) a a
took-none-of rights tells told_keys known past given given' reader reader' a why bytes is_past gave told no_read =
    let more = is_past bytes in
    record {
      stream = bytes;
      gave = gave;
      version_is = known-version reader (past.read ++ bytes) told;
      readings = [];
      taken = refl;
      unread = more.0;
      came = more.1;
      ran = gave-up-some [] more.0 (arrivals_of (past.read ++ bytes)).ending a a why no_read (takes-none [] a a ((refl, refl, refl, refl), refl) refl refl);
      left = λ is. absurd (no_read (same-fault why fault.Read is));
    }

told-nil : (reader : FrameReader) (stream : List ℕ) → HasTold reader stream → HasTold reader (stream ++ [])
told-nil reader stream told = subst (λ (l : List ℕ). HasTold reader l) (sym (append-nil stream)) told

-- the first read failed
pub began-badly : (rights : Rights) (tells told_keys : Bool) (known : Noticed) (past : Past) (given given' : List ℕ) (reader : FrameReader) (a : Inbound) (why : InboundFault) → IsPast past
    → Reads tells given given' past.read past.arrived (Err why) reader → HasRun tells (TakesUnder rights told_keys known known) (version_or_one (version_of reader)) past given given' reader (Err why) a a
began-badly rights tells told_keys known past given given' reader a fault.Read is_past (nothing, read, goes_on) =
    let here : HasRead reader (past.read ++ []) (past.arrived ++ []) =
    subst (λ (l : List Arrival). HasRead reader (past.read ++ []) l) (sym (append-nil past.arrived)) (subst (λ (l : List ℕ). HasRead reader l past.arrived) (sym (append-nil past.read)) read) in
    record {
      stream = [];
      gave = nothing;
      version_is = known-version reader (past.read ++ []) (version_tells reader.version reader.stage (past.read ++ []) (past.arrived ++ []) here);
      readings = [];
      taken = refl;
      unread = [];
      came = all-arrived reader (past.read ++ []) (past.arrived ++ []) here;
      ran = (took-nothing a, refl);
      left = λ is. (here, goes_on);
    }
began-badly rights tells told_keys known past given given' reader a fault.NoMemory is_past (bytes, gave, told) =
    took-none-of rights tells told_keys known past given given' reader reader a fault.NoMemory bytes is_past gave told (λ is. absurd cc)
began-badly rights tells told_keys known past given given' reader a fault.Exhausted is_past (nothing, told) =
    took-none-of rights tells told_keys known past given given' reader reader a fault.Exhausted [] is_past nothing (told-nil reader past.read told) (λ is. absurd cc)
began-badly rights tells told_keys known past given given' reader a fault.Stopped is_past reads = absurd reads

-- a run that did not begin, whatever the first read gave
pub not-begun : (rights : Rights) (tells told_keys : Bool) (known : Noticed) (past : Past) (given given' : List ℕ) (reader : FrameReader) (a : Inbound) (first : Option (Vec Arrival Global)) → IsPast past
    → Reads tells given given' past.read past.arrived (Ok first) reader → HasRun tells (TakesUnder rights told_keys known known) (version_or_one (version_of reader)) past given given' reader (Err fault.NoMemory) a a
not-begun rights tells told_keys known past given given' reader a (Some more) is_past (bytes, gave, some, read) =
    took-none-of rights tells told_keys known past given given' reader reader a fault.NoMemory bytes is_past gave (version_tells reader.version reader.stage (past.read ++ bytes) (past.arrived ++ more.items) read) (λ is. absurd cc)
not-begun rights tells told_keys known past given given' reader a None is_past (nothing, read) =
    took-none-of rights tells told_keys known past given given' reader reader a fault.NoMemory [] is_past nothing (told-nil reader past.read (version_tells reader.version reader.stage past.read past.arrived read)) (λ is. absurd cc)

-- a stream of nothing more
pub ended-at-once : (rights : Rights) (tells told_keys : Bool) (known : Noticed) (past : Past) (given given' : List ℕ) (reader reader' : FrameReader) (a : Inbound) (end : Ending)
    → Reads tells given given' past.read past.arrived (Ok None) reader
    → ((stream : List ℕ) (handed : List Arrival) → HasRead reader stream handed
    → arrivals_of stream ≡ record { version = version_or_one reader.version; arrived = handed; ending = end })
    → ((stream : List ℕ) (handed : List Arrival) → HasRead reader stream handed → end ≢ ending.Broken)
    → HasRun tells (TakesUnder rights told_keys known known) (version_or_one (version_of reader)) past given given' reader' (Ok end) a a
ended-at-once rights tells told_keys known past given given' reader reader' a end (nothing, read) ends whole =
    let is : arrivals_of (past.read ++ []) ≡ record { version = version_or_one reader.version; arrived = past.arrived; ending = end } =
    ap arrivals_of (append-nil past.read) ∙ ends past.read past.arrived read in
    record {
      stream = [];
      gave = nothing;
      version_is = ap (λ (x : Arrivals). x.version) is;
      readings = [];
      taken = refl;
      unread = [];
      came = ap (λ (x : Arrivals). x.arrived) is ∙ sym (append-nil past.arrived);
      ran = (took-nothing a, refl, ap (λ (x : Arrivals). x.ending) is, whole past.read past.arrived read);
      left = λ no. absurd cc;
    }

-- a fault that is passed on
pub run-residual : (tells : Bool) (AreTaken : List Terms → Type 0) (version : Version) (past : Past) (given given' : List ℕ) (reader : FrameReader) (r : Result Ending InboundFault) (why : InboundFault) (a b : Inbound)
    → IsErrAnd r (λ e. e ≡ why) → HasRun tells AreTaken version past given given' reader (Err why) a b → HasRun tells AreTaken version past given given' reader r a b
run-residual tells AreTaken version past given given' reader (Ok x) why a b is run = absurd is
run-residual tells AreTaken version past given given' reader (Err e) why a b is run = subst (λ (f : InboundFault). HasRun tells AreTaken version past given given' reader (Err f) a b) (sym is) run

pub match-residual : {T : Type 0} (P : T → Type 0) (Q : InboundFault → Type 0) (r : Result T InboundFault) (why : InboundFault)
    → IsErrAnd r (λ e. e ≡ why) → Q why → MatchResult r P Q
match-residual P Q (Ok x) why is q = absurd is
match-residual P Q (Err e) why is q = subst Q (sym is) q

-- an ending that is told where reading stopped
pub told-ended : (end : Ending) (has_ended : Type 0) (at_end : Type 0) → at_end ⊎ has_ended → (has_ended → end ≢ ending.Broken → end ≡ ending.Oversize) → end ≢ ending.Broken
    → end ≢ ending.Oversize → at_end
told-ended end has_ended at_end (inl there) oversize whole other = there
told-ended end has_ended at_end (inr ended) oversize whole other = absurd (other (oversize ended whole))
