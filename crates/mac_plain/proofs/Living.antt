-- How a life goes on, what is said of it, and how it ends.
use Rattle.std.proofs.Common.{◌≡◌, ℕ, List, [], ◌∷◌, ◌++◌, refl, sym, ap, subst, ◌∙◌}
use Rattle.std.specs.Prelude.{Bool, IsTrue, All, Option, Some, None}
use Rattle.std.specs.Arc.{arc_value}
use Rattle.std.proofs.lemmas.List.{append-nil}
use Rattle.std.proofs.lemmas.List.Elements.{All-append, All-cons, All-nil}
use Rattle.std.proofs.lemmas.Bool.{false≢true}
use Rattle.mac_board.specs.Noticed.{Current}
use Rattle.mac_wire.specs.declared.arrival.Arrival.{Arrival}
use Rattle.mac_wire.specs.declared.arrival.Arrival.TheVariants as arrival
use Rattle.mac_wire.specs.declared.arrival.Ending.TheVariants as ending
use Rattle.mac_wire.specs.declared.session.Session.{Session}
use Rattle.mac_wire.specs.declared.version.Version.{Version}
use Rattle.mac_wire.specs.declared.version.Version.TheVariants as version
use Rattle.mac_wire.specs.Frame.{Frames, followed_by, frames_of, frames_within}
use Rattle.mac_wire.specs.Reply.{reply_text}
use Rattle.mac_wire.specs.Session.{HasCome}
use Rattle.mac_wire.specs.Stream.{Arrivals, arrivals_of, in_version, version_or_one}
use Rattle.mac_decide.specs.declared.job.Job.{Job}
use Rattle.mac_decide.specs.declared.rights.Rights.{Rights}
use Rattle.mac_decide.specs.Terms.{Terms}
use Rattle.mac_decide.specs.World.{job_under}
use Rattle.mac_plain.specs.Asking.{IsAsked}
use Rattle.mac_plain.specs.Client.{Answers, Serves, StandsSo, arrivals, asked_job, jobs_of, may_move, replies, terms_for}
use Rattle.mac_plain.specs.Dear.{front_of}
use Rattle.mac_plain.specs.Lives.{IsUnder, Lives, Rests, Said, SaidAll}
use Rattle.mac_plain.proofs.Promises.{promised, standing, told_version}
use Rattle.mac_plain.specs.declared.client.Client.{Client}
use Rattle.mac_plain.specs.declared.course.Course.{Course}
use Rattle.mac_plain.specs.declared.course.Ended.{Ended}
use Rattle.mac_plain.specs.declared.course.Course.TheVariants as course

-- the jobs of a round are asked under its rights
asked_under : (rights : Rights) (current : Current) (payloads : List (List ℕ))
    → All (IsUnder rights) (jobs_of (record { table = current.table; rights = rights; moment = current.moment }) payloads)
asked_under rights current [] = All-nil (IsUnder rights)
asked_under rights current (p ∷ ps) =
    let terms : Terms = record { table = current.table; rights = rights; moment = current.moment } in
    All-cons (IsUnder rights) (job_under terms (arrival.Payload p)) (jobs_of terms ps) (current, refl) (asked_under rights current ps)

-- a step that leaves the rights, and answers only what was asked under them, keeps a life
pub keeps-step : {P : Type 0} (tells : Bool) (taken written : P → List ℕ) (before after : Client P) (jobs : List Job) → IsTrue tells
    → after.rights ≡ before.rights → All (IsUnder before.rights.value) jobs → Answers tells taken written before after jobs
    → Lives before.rights.value (taken before.port) (written before.port) before.course before.session
    → Lives after.rights.value (taken after.port) (written after.port) after.course after.session
keeps-step {P} tells taken written before after jobs told same under a l =
    let kept : after.rights.value ≡ before.rights.value = ap (λ rights. arc_value rights) same in
    let goes = a.goes_on (taken before.port) (written before.port) l.done l.stands in
    record {
      done = l.done ++ jobs;
      under = subst (λ (r : Rights). All (IsUnder r) (l.done ++ jobs)) (sym kept) (All-append (IsUnder before.rights.value) l.done jobs l.under under);
      stands = subst (λ (c : List ℕ). StandsSo after.course after.session c (written after.port) (l.done ++ jobs)) (sym (a.took told))
          (subst (λ (w : List ℕ). StandsSo after.course after.session (taken before.port ++ a.came) w (l.done ++ jobs)) (sym (a.wrote told)) goes);
    }

pub keeps-lives : {P : Type 0} (tells : Bool) (taken written : P → List ℕ) (current : Current) (before after : Client P) → IsTrue tells
    → Serves tells taken written current before after
    → Lives before.rights.value (taken before.port) (written before.port) before.course before.session
    → Lives after.rights.value (taken after.port) (written after.port) after.course after.session
keeps-lives {P} tells taken written current before after told s l =
    keeps-step tells taken written before after (jobs_of (terms_for current before) s.payloads) told s.rights_kept (asked_under before.rights.value current s.payloads) s.answers l

-- what a worker is asked is asked under the client's rights
pub asked-under : {P : Type 0} (current : Current) (before after : Client P) (job : Job) (came went : List ℕ) → IsAsked current before after job
    → Lives before.rights.value came went before.course before.session → IsUnder before.rights.value job
asked-under {P} current before after job came went a l =
    let wide = subst (λ (k : Course). StandsSo k before.session came went l.done) a.was_wide l.stands in
    let terms : Terms = terms_for current before in
    let is : job ≡ job_under terms (front_of before.session.carried.items) = a.job_is wide.1 in
    (current, is ∙ ap (λ (x : Arrival). job_under terms x) (sym (ap (λ (j : Job). j.arrival) is)))

-- so is what the memory of tokens tells the reply to
pub recalled-under : {P : Type 0} (current : Current) (client : Client P) → IsUnder client.rights.value (asked_job current client)
recalled-under current client = (current, refl)

pub moves-resting : (rights : Rights) (came went : List ℕ) (goes : Course) (session : Session) → IsTrue (may_move goes) → Lives rights came went goes session → Rests rights came went session
moves-resting rights came went course.Open session may l = record { done = l.done; under = l.under; stands = l.stands.0 }
moves-resting rights came went course.Held session may l = record { done = l.done; under = l.under; stands = l.stands }
moves-resting rights came went course.Wide session may l = record { done = l.done; under = l.under; stands = l.stands.0 }
moves-resting rights came went (course.Awaiting basis) session may l = absurd (false≢true may)
moves-resting rights came went course.TooLong session may l = absurd (false≢true may)
moves-resting rights came went (course.Ended why) session may l = absurd (false≢true may)
moves-resting rights came went (course.Fallen why) session may l = absurd (false≢true may)

pub says : (rights : Rights) (came went : List ℕ) (goes : Course) (session : Session) → Lives rights came went goes session → Said rights came went
says rights came went goes session l = record { done = l.done; under = l.under; promised = promised goes session came went l.done l.stands }

pub rests-said : (rights : Rights) (came went : List ℕ) (session : Session) → Rests rights came went session → Said rights came went
rests-said rights came went session r = record { done = r.done; under = r.under; promised = standing session came went r.done r.stands }

-- Where nothing is left of what came, these are its arrivals.
come_all : (v : Option Version) (read rest : List ℕ) (arrived : List Arrival) → HasCome v read arrived rest → rest ≡ []
    → arrivals_of read ≡ in_version (version_or_one v) (followed_by arrived (frames_of []))
unfolding arrivals_of
come_all None read rest arrived (none, nothing, empty) left =
    ap arrivals_of none ∙ ap (λ (l : List Arrival). in_version version.One (followed_by l (frames_of []))) (sym nothing)
come_all (Some v) read rest arrived (told, come) left =
    ap arrivals_of (sym (append-nil read)) ∙ come []
    ∙ ap (λ (l : List ℕ). in_version v (followed_by arrived (frames_of l))) (append-nil rest ∙ left)

no_frames : frames_of [] ≡ record { arrived = []; ending = ending.Clean }
unfolding frames_of frames_within
no_frames = refl

-- Who was sent all that was unsent, and of whom nothing is carried, has all.
pub says-all : (rights : Rights) (came went : List ℕ) (why : Ended) (session : Session) → session.unsent ≡ [] → session.carried.items ≡ []
    → Lives rights came went (course.Ended why) session → SaidAll rights came went ending.Clean
says-all rights came went why session sent used l =
    let stands = l.stands.0 in
    let v : Version = version_or_one session.version in
    let all : arrivals_of came ≡ in_version v (followed_by (arrivals l.done) (record { arrived = []; ending = ending.Clean })) =
    come_all session.version came session.carried.items (arrivals l.done) stands.came used ∙ ap (λ (f : Frames). in_version v (followed_by (arrivals l.done) f)) no_frames in
    record {
      done = l.done;
      under = l.under;
      arrived = ap (λ (a : Arrivals). a.arrived) all ∙ append-nil (arrivals l.done);
      ended = ap (λ (a : Arrivals). a.ending) all;
      all = sym (append-nil went) ∙ ap (λ (l : List ℕ). went ++ l) (sym sent) ∙ stands.went ∙ ap (λ (w : Version). reply_text w (replies l.done)) (sym (ap (λ (a : Arrivals). a.version) all));
    }

-- Who was sent all that was unsent, and ends in a frame that is too long, has all.
pub says-too-long : (rights : Rights) (came went : List ℕ) (session : Session) → session.unsent ≡ [] → Lives rights came went course.TooLong session → SaidAll rights came went ending.Oversize
says-too-long rights came went session sent l =
    record {
      done = l.done;
      under = l.under;
      arrived = l.stands.came;
      ended = l.stands.ends;
      all = sym (append-nil went) ∙ ap (λ (l : List ℕ). went ++ l) (sym sent) ∙ l.stands.went
          ∙ ap (λ (w : Version). reply_text w (replies l.done)) (told_version session.version came l.stands.told);
    }
