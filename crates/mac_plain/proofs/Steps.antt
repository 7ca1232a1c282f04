-- What each step of a round does to a session.
use Rattle.std.proofs.Common.{◌≡◌, ℕ, ◌+◌, List, [], ◌∷◌, ◌++◌, length, take, drop, refl, sym, ap, subst, ◌∙◌, append_assoc, arith}
use Rattle.std.specs.Prelude.{Bool, false}
use Rattle.std.proofs.lemmas.List.{append-nil, length-append, map-append, length-map, take-append-drop}
use Rattle.std.proofs.lemmas.List.Concat.{flat_map-append}
use Rattle.std.proofs.lemmas.List.Elements.{All-nil}
use Rattle.mac_board.specs.Noticed.{Current}
use Rattle.mac_wire.specs.declared.arrival.Arrival.{Arrival}
use Rattle.mac_wire.specs.declared.arrival.Arrival.TheVariants as arrival
use Rattle.mac_wire.specs.declared.reply.Reply.{Reply}
use Rattle.mac_wire.specs.declared.session.Session.{Session}
use Rattle.mac_wire.specs.declared.version.Version.{Version}
use Rattle.mac_wire.specs.Frame.{frame, framed}
use Rattle.mac_wire.specs.Reply.{reply_text, reply_frame, payloads_from, placed_payload}
use Rattle.mac_wire.specs.Session.{HasCome, Stands}
use Rattle.mac_wire.specs.Stream.{version_or_one}
use Rattle.mac_wire.proofs.ReplyText.{payloads-append}
use Rattle.mac_wire.proofs.Sessions.{come_fronts}
use Rattle.mac_decide.specs.declared.job.Job.{Job}
use Rattle.mac_decide.specs.Prepared.{reply_to_job}
use Rattle.mac_decide.specs.Terms.{Terms}
use Rattle.mac_decide.specs.World.{job_under}
use Rattle.mac_plain.specs.Dear.{AreCheap, is_dear}
use Rattle.mac_plain.specs.Client.{Answers, HasAnswered, HasFallen, Passed, StandsSo, answer_under, arrivals, jobs_of, replies, terms_for, wide_job}
use Rattle.mac_plain.specs.Goes.{Goes, Owes, OwesSo, after_reply, asked}
use Rattle.mac_plain.specs.declared.client.Client.{Client}
use Rattle.mac_plain.specs.declared.course.Course.{Course}
use Rattle.mac_plain.specs.declared.course.Course.TheVariants as course
use Rattle.mac_plain.specs.declared.course.Fall.{Fall}

-- ---- one more reply

text-snoc : (v : Version) (rs : List Reply) (r : Reply) → reply_text v (rs ++ r ∷ []) ≡ reply_text v rs ++ reply_frame v (length rs) r
unfolding payloads_from
text-snoc v rs r =
    ap framed (payloads-append v 0 rs (r ∷ []))
    ∙ flat_map-append frame (payloads_from v 0 rs) (placed_payload v (0 + length rs) r ∷ [])
    ∙ ap (λ (l : List ℕ). framed (payloads_from v 0 rs) ++ l) (append-nil (frame (placed_payload v (0 + length rs) r)))
    ∙ ap (λ (n : ℕ). framed (payloads_from v 0 rs) ++ reply_frame v n r) (omega arith)

-- what is unsent, with the reply to one more job
pub went_more : (session : Session) (sent : List ℕ) (done : List Job) (job : Job) (reply : Reply)
    → reply ≡ reply_to_job job → sent ++ session.unsent ≡ reply_text (version_or_one session.version) (replies done) → session.answered ≡ length done
    → sent ++ (after_reply session reply).unsent ≡ reply_text (version_or_one session.version) (replies (done ++ job ∷ []))
went_more session sent done job reply is went counted =
    let v = version_or_one session.version in
    sym (append_assoc sent session.unsent (reply_frame v session.answered reply))
    ∙ ap (λ (l : List ℕ). l ++ reply_frame v session.answered reply) went
    ∙ ap (λ (n : ℕ). reply_text v (replies done) ++ reply_frame v n reply) (counted ∙ sym (length-map done reply_to_job))
    ∙ ap (λ (r : Reply). reply_text v (replies done) ++ reply_frame v (length (replies done)) r) is
    ∙ sym (text-snoc v (replies done) (reply_to_job job))
    ∙ ap (reply_text v) (sym (map-append reply_to_job done (job ∷ [])))

-- the next payload that is owed has its reply
pub owes_answer : (session : Session) (read sent : List ℕ) (done : List Job) (job : Job) (payload : List ℕ) (owed : List (List ℕ)) (reply : Reply)
    → reply ≡ reply_to_job job → job.arrival ≡ arrival.Payload payload → Owes session read sent done (payload ∷ owed)
    → Owes (after_reply session reply) read sent (done ++ job ∷ []) owed
owes_answer session read sent done job payload owed reply is asks o =
    record {
      came = subst (λ (l : List Arrival). HasCome session.version read l session.carried.items)
          (sym (append_assoc (arrivals done) (arrival.Payload payload ∷ []) (asked owed)) ∙ ap (λ (a : Arrival). (arrivals done ++ a ∷ []) ++ asked owed) (sym asks) ∙ ap (λ (l : List Arrival). l ++ asked owed) (sym (map-append (λ (j : Job). j.arrival) done (job ∷ [])))) o.came;
      went = went_more session sent done job reply is o.went o.counted;
      counted = ap (λ (n : ℕ). n + 1) o.counted ∙ sym (length-append done (job ∷ []));
    }

pub owes_reply : (session : Session) (read sent : List ℕ) (done : List Job) (terms : Terms) (payload : List ℕ) (owed : List (List ℕ)) (reply : Reply)
    → reply ≡ answer_under terms payload → Owes session read sent done (payload ∷ owed)
    → Owes (after_reply session reply) read sent (done ++ job_under terms (arrival.Payload payload) ∷ []) owed
owes_reply session read sent done terms payload owed reply is o = owes_answer session read sent done (job_under terms (arrival.Payload payload)) payload owed reply is refl o

-- ---- a fall

-- what is owed is lost, whatever was to be answered
pub owes_falls : (session : Session) (read sent : List ℕ) (done more : List Job) (owed : List (List ℕ)) → Owes session read sent done owed → HasFallen session read sent (done ++ more)
owes_falls session read sent done more owed o =
    let f = come_fronts session.version read session.carried.items (arrivals done) (asked owed) o.came in
    record { told = f.told; done = done; missed = more; are = refl; lost = f.lost; came = f.came; went = o.went }

pub fallen_more : (session : Session) (read sent : List ℕ) (jobs more : List Job) → HasFallen session read sent jobs → HasFallen session read sent (jobs ++ more)
fallen_more session read sent jobs more f = record {
  told = f.told;
  done = f.done;
  missed = f.missed ++ more;
  are = ap (λ (l : List Job). l ++ more) f.are ∙ append_assoc f.done f.missed more;
  lost = f.lost;
  came = f.came;
  went = f.went;
}

-- a session stands where nothing is owed
pub stands_owes : (session : Session) (read sent : List ℕ) (done : List Job) → Stands session read sent (arrivals done) (replies done) → Owes session read sent done []
stands_owes session read sent done s = record {
  came = subst (λ (l : List Arrival). HasCome session.version read l session.carried.items) (sym (append-nil (arrivals done))) s.came;
  went = s.went;
  counted = s.counted ∙ length-map done reply_to_job;
}

pub owes_stands : (session : Session) (read sent : List ℕ) (done : List Job) → Owes session read sent done [] → Stands session read sent (arrivals done) (replies done)
owes_stands session read sent done o = record {
  came = subst (λ (l : List Arrival). HasCome session.version read l session.carried.items) (append-nil (arrivals done)) o.came;
  went = o.went;
  each = length-map done reply_to_job ∙ sym (length-map done (λ (j : Job). j.arrival));
  counted = o.counted ∙ sym (length-map done reply_to_job);
}

-- ---- bytes that went out

pub owes_flush : (session : Session) (n : ℕ) (read sent : List ℕ) (done : List Job) (owed : List (List ℕ)) → Owes session read sent done owed
    → Owes (record session { unsent = drop n session.unsent }) read (sent ++ take n session.unsent) done owed
owes_flush session n read sent done owed o = record {
  came = o.came;
  went = append_assoc sent (take n session.unsent) (drop n session.unsent) ∙ ap (λ (l : List ℕ). sent ++ l) (take-append-drop n session.unsent) ∙ o.went;
  counted = o.counted;
}

pub fallen_flush : (session : Session) (n : ℕ) (read sent : List ℕ) (jobs : List Job) → HasFallen session read sent jobs
    → HasFallen (record session { unsent = drop n session.unsent }) read (sent ++ take n session.unsent) jobs
fallen_flush session n read sent jobs f = record {
  told = f.told;
  done = f.done;
  missed = f.missed;
  are = f.are;
  lost = f.lost;
  came = f.came;
  went = append_assoc sent (take n session.unsent) (drop n session.unsent) ∙ ap (λ (l : List ℕ). sent ++ l) (take-append-drop n session.unsent) ∙ f.went;
}

pub flush_so : (c : Course) (session : Session) (n : ℕ) (read sent : List ℕ) (done : List Job) (owed : List (List ℕ)) → OwesSo c session read sent done owed
    → OwesSo c (record session { unsent = drop n session.unsent }) read (sent ++ take n session.unsent) done owed
flush_so course.Open session n read sent done owed o = (owes_flush session n read sent done owed o.0, o.1)
flush_so course.Held session n read sent done owed o = owes_flush session n read sent done owed o
flush_so course.Wide session n read sent done owed o = (owes_flush session n read sent done owed o.0, o.1)
flush_so (course.Awaiting basis) session n read sent done owed o = (
  record {
    done = o.0.done;
    are = o.0.are;
    stands = owes_stands (record session { unsent = drop n session.unsent }) read (sent ++ take n session.unsent) o.0.done
        (owes_flush session n read sent o.0.done [] (stands_owes session read sent o.0.done o.0.stands));
    wide = o.0.wide;
  },
  o.1,
)
flush_so course.TooLong session n read sent done owed o = (
  record {
    told = o.0.told;
    came = o.0.came;
    ends = o.0.ends;
    went = append_assoc sent (take n session.unsent) (drop n session.unsent) ∙ ap (λ (l : List ℕ). sent ++ l) (take-append-drop n session.unsent) ∙ o.0.went;
  },
  o.1,
)
flush_so (course.Ended why) session n read sent done owed o = (owes_flush session n read sent done owed o.0, o.1)
flush_so (course.Fallen why) session n read sent done owed o = fallen_flush session n read sent done o

-- ---- by how it goes on

abbrev pub IsUp : Course → Type 0
IsUp c = (why : Fall) → c ≡ course.Fallen why → ⊥

-- the next payload that is owed has its reply, and the client goes on as before
pub reply_so : (c : Course) → IsUp c → (session : Session) (read sent : List ℕ) (done : List Job) (terms : Terms) (payload : List ℕ) (owed : List (List ℕ)) (reply : Reply)
    → reply ≡ answer_under terms payload → OwesSo c session read sent done (payload ∷ owed)
    → OwesSo c (after_reply session reply) read sent (done ++ job_under terms (arrival.Payload payload) ∷ []) owed
reply_so course.Open up session read sent done terms payload owed reply is o = (owes_reply session read sent done terms payload owed reply is o.0, o.1)
reply_so course.Held up session read sent done terms payload owed reply is o = owes_reply session read sent done terms payload owed reply is o
reply_so course.Wide up session read sent done terms payload owed reply is o = (owes_reply session read sent done terms payload owed reply is o.0, o.1)
reply_so (course.Awaiting basis) up session read sent done terms payload owed reply is o = let none : payload ∷ owed ≡ [] = o.1 in absurd cc
reply_so course.TooLong up session read sent done terms payload owed reply is o = let none : payload ∷ owed ≡ [] = o.1 in absurd cc
reply_so (course.Ended why) up session read sent done terms payload owed reply is o = (owes_reply session read sent done terms payload owed reply is o.0, o.1)
reply_so (course.Fallen why) up session read sent done terms payload owed reply is o = absurd (up why refl)

pub begins_so : (c : Course) (session : Session) (read sent : List ℕ) (done : List Job) → StandsSo c session read sent done → OwesSo c session read sent done []
begins_so course.Open session read sent done s = (stands_owes session read sent done s.0, s.1)
begins_so course.Held session read sent done s = stands_owes session read sent done s
begins_so course.Wide session read sent done s = (stands_owes session read sent done s.0, s.1)
begins_so (course.Awaiting basis) session read sent done s = (s, refl)
begins_so course.TooLong session read sent done s = (s, refl)
begins_so (course.Ended why) session read sent done s = (stands_owes session read sent done s.0, s.1)
begins_so (course.Fallen why) session read sent done s = s

pub ends_so : (c : Course) (session : Session) (read sent : List ℕ) (done : List Job) → OwesSo c session read sent done [] → StandsSo c session read sent done
ends_so course.Open session read sent done s = (owes_stands session read sent done s.0, s.1)
ends_so course.Held session read sent done s = owes_stands session read sent done s
ends_so course.Wide session read sent done s = (owes_stands session read sent done s.0, s.1)
ends_so (course.Awaiting basis) session read sent done s = s.0
ends_so course.TooLong session read sent done s = s.0
ends_so (course.Ended why) session read sent done s = (owes_stands session read sent done s.0, s.1)
ends_so (course.Fallen why) session read sent done s = s

-- ---- steps of one client, of which nothing came and nothing went

pub still : (tells : Bool) (before after : List ℕ) → after ≡ before → Passed tells before after []
still tells before after same told = same ∙ sym (append-nil before)

pub steps_still : (c c' : Course) (s s' : Session) (read sent : List ℕ) (done more : List Job) (answered owed : List (List ℕ))
    → (OwesSo c s read sent done (answered ++ owed) → OwesSo c' s' read sent (done ++ more) owed)
    → OwesSo c s read sent done (answered ++ owed) → OwesSo c' s' (read ++ []) (sent ++ []) (done ++ more) (owed ++ [])
steps_still c c' s s' read sent done more answered owed step o =
    subst (λ (l : List (List ℕ)). OwesSo c' s' (read ++ []) (sent ++ []) (done ++ more) l) (sym (append-nil owed))
    (subst (λ (l : List ℕ). OwesSo c' s' (read ++ []) l (done ++ more) owed) (sym (append-nil sent))
    (subst (λ (l : List ℕ). OwesSo c' s' l sent (done ++ more) owed) (sym (append-nil read)) (step o)))

-- a client that falls, whatever was to be answered
pub falls_so : (c : Course) (why : Fall) (s : Session) (read sent : List ℕ) (done more : List Job) (owed rest : List (List ℕ))
    → OwesSo c s read sent done owed → OwesSo (course.Fallen why) s read sent (done ++ more) rest
falls_so course.Open why s read sent done more owed rest o = owes_falls s read sent done more owed o.0
falls_so course.Held why s read sent done more owed rest o = owes_falls s read sent done more owed o
falls_so course.Wide why s read sent done more owed rest o = owes_falls s read sent done more owed o.0
falls_so (course.Awaiting basis) why s read sent jobs more owed rest o =
    let f = owes_falls s read sent o.0.done (wide_job basis s ∷ more) [] (stands_owes s read sent o.0.done o.0.stands) in
    subst (HasFallen s read sent) (sym (append_assoc o.0.done (wide_job basis s ∷ []) more) ∙ ap (λ (l : List Job). l ++ more) (sym o.0.are)) f
falls_so course.TooLong why s read sent done more owed rest o =
    record { told = o.0.told; done = done; missed = more; are = refl; lost = []; came = o.0.came ∙ sym (append-nil (arrivals done)); went = o.0.went }
falls_so (course.Ended w) why s read sent done more owed rest o = owes_falls s read sent done more owed o.0
falls_so (course.Fallen w) why s read sent done more owed rest o = fallen_more s read sent done more o

-- of nothing that is owed besides nothing is too dear
pub none_dear : AreCheap []
none_dear = All-nil (λ (p : List ℕ). is_dear p ≡ false)

-- a step of which nothing came and nothing went
pub goes_still : {P : Type 0} (tells : Bool) (taken written : P → List ℕ) (current : Current) (before after : Client P) (answered : List (List ℕ)) → after.port ≡ before.port → after.rights ≡ before.rights
    → ((read sent : List ℕ) (done : List Job) (owed : List (List ℕ)) → OwesSo before.course before.session read sent done (answered ++ owed)
    → OwesSo after.course after.session read sent (done ++ jobs_of (terms_for current before) answered) owed)
    → Goes tells taken written current before after answered []
goes_still tells taken written current before after answered same kept step = record {
  cheap = none_dear;
  came = [];
  gone = [];
  rights_kept = kept;
  took = still tells (taken before.port) (taken after.port) (ap taken same);
  wrote = still tells (written before.port) (written after.port) (ap written same);
  goes_on = λ read sent done owed. steps_still before.course after.course before.session after.session read sent done (jobs_of (terms_for current before) answered) answered owed (step read sent done owed);
}

-- nothing is answered of nothing
pub none_done : (c : Course) (s : Session) (read sent : List ℕ) (done : List Job) (owed : List (List ℕ)) → OwesSo c s read sent done owed → OwesSo c s read sent (done ++ []) owed
none_done c s read sent done owed o = subst (λ (l : List Job). OwesSo c s read sent l owed) (sym (append-nil done)) o

-- bytes that went out
pub flushes : (c : Course) (s : Session) (n : ℕ) (read sent : List ℕ) (done : List Job) (owed : List (List ℕ)) → OwesSo c s read sent done owed
    → OwesSo c (record s { unsent = drop n s.unsent }) (read ++ []) (sent ++ take n s.unsent) (done ++ []) (owed ++ [])
flushes c s n read sent done owed o =
    let s' : Session = record s { unsent = drop n s.unsent } in
    let gone : List ℕ = sent ++ take n s.unsent in
    subst (λ (l : List (List ℕ)). OwesSo c s' (read ++ []) gone (done ++ []) l) (sym (append-nil owed))
    (subst (λ (l : List Job). OwesSo c s' (read ++ []) gone l owed) (sym (append-nil done))
    (subst (λ (l : List ℕ). OwesSo c s' l gone done owed) (sym (append-nil read)) (flush_so c s n read sent done owed o)))

-- a step of which nothing came and nothing went, and with which these jobs more are answered
pub answers_still : {P : Type 0} (tells : Bool) (taken written : P → List ℕ) (before after : Client P) (jobs : List Job) → after.port ≡ before.port
    → ((read sent : List ℕ) (done : List Job) → HasAnswered before read sent done → HasAnswered after read sent (done ++ jobs)) → Answers tells taken written before after jobs
answers_still tells taken written before after jobs same step = record {
  came = [];
  gone = [];
  took = still tells (taken before.port) (taken after.port) (ap taken same);
  wrote = still tells (written before.port) (written after.port) (ap written same);
  goes_on = λ read sent done h.
      subst (λ (l : List ℕ). HasAnswered after l (sent ++ []) (done ++ jobs)) (sym (append-nil read))
      (subst (λ (l : List ℕ). HasAnswered after read l (done ++ jobs)) (sym (append-nil sent)) (step read sent done h));
}

-- nothing changed, and nothing more is answered
pub answers_none : {P : Type 0} (tells : Bool) (taken written : P → List ℕ) (x : Client P) → Answers tells taken written x x []
answers_none tells taken written x = answers_still tells taken written x x [] refl
    (λ read sent done h. subst (λ (l : List Job). HasAnswered x read sent l) (sym (append-nil done)) h)

-- a client that falls
pub answers_fall : {P : Type 0} (tells : Bool) (taken written : P → List ℕ) (x : Client P) (why : Fall) → Answers tells taken written x (record x { course = course.Fallen why }) []
answers_fall tells taken written x why = answers_still tells taken written x (record x { course = course.Fallen why }) [] refl
    (λ read sent done h. falls_so x.course why x.session read sent done [] [] [] (begins_so x.course x.session read sent done h))
