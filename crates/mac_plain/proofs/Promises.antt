-- What several rounds come to.
use Rattle.std.proofs.Common.{◌≡◌, ℕ, List, [], ◌∷◌, ◌++◌, refl, sym, ap, subst, ◌∙◌, append_assoc}
use Rattle.std.specs.Prelude.{Bool, Option}
use Rattle.std.specs.Arc.{arc_value}
use Rattle.std.proofs.lemmas.List.{append-nil}
use Rattle.mac_board.specs.Noticed.{Current}
use Rattle.mac_wire.specs.declared.arrival.Arrival.{Arrival}
use Rattle.mac_wire.specs.declared.session.Session.{Session}
use Rattle.mac_wire.specs.declared.version.Version.{Version}
use Rattle.mac_wire.specs.Reply.{reply_text}
use Rattle.mac_wire.specs.Session.{HasCome, Stands}
use Rattle.mac_wire.specs.Stream.{arrivals_of, version_or_one, version_told}
use Rattle.mac_wire.proofs.Opening.{told_is}
use Rattle.mac_wire.proofs.Sessions.{come_fronts}
use Rattle.mac_decide.specs.declared.job.Job.{Job}
use Rattle.mac_decide.specs.declared.rights.Rights.{Rights}
use Rattle.mac_plain.specs.Client.{Answers, HasAnswered, HasFallen, IsPromised, StandsSo, arrivals, jobs_of, replies, terms_for, wide_job}
use Rattle.mac_plain.specs.Rounds.{AnswersUnder, ServesUnder, jobs_under}
use Rattle.mac_plain.specs.declared.client.Client.{Client}
use Rattle.mac_plain.specs.declared.course.Course.{Course}
use Rattle.mac_plain.specs.declared.course.Course.TheVariants as course
use Rattle.mac_plain.proofs.Steps.{answers_none}

pub composes : {P : Type 0} (tells : Bool) (taken written : P → List ℕ) (a b c : Client P) (jobs more : List Job) → Answers tells taken written a b jobs → Answers tells taken written b c more
    → Answers tells taken written a c (jobs ++ more)
composes {P} tells taken written a b c jobs more x y = record {
  came = x.came ++ y.came;
  gone = x.gone ++ y.gone;
  took = λ told. y.took told ∙ ap (λ (l : List ℕ). l ++ y.came) (x.took told) ∙ append_assoc (taken a.port) x.came y.came;
  wrote = λ told. y.wrote told ∙ ap (λ (l : List ℕ). l ++ y.gone) (x.wrote told) ∙ append_assoc (written a.port) x.gone y.gone;
  goes_on = λ read sent done h. joined read sent done (y.goes_on (read ++ x.came) (sent ++ x.gone) (done ++ jobs) (x.goes_on read sent done h));
} where
  joined : (read sent : List ℕ) (done : List Job) → HasAnswered c ((read ++ x.came) ++ y.came) ((sent ++ x.gone) ++ y.gone) ((done ++ jobs) ++ more)
      → HasAnswered c (read ++ (x.came ++ y.came)) (sent ++ (x.gone ++ y.gone)) (done ++ (jobs ++ more))
  joined read sent done h =
      subst (λ (l : List ℕ). HasAnswered c l (sent ++ (x.gone ++ y.gone)) (done ++ (jobs ++ more))) (append_assoc read x.came y.came)
      (subst (λ (l : List ℕ). HasAnswered c ((read ++ x.came) ++ y.came) l (done ++ (jobs ++ more))) (append_assoc sent x.gone y.gone)
      (subst (λ (l : List Job). HasAnswered c ((read ++ x.came) ++ y.came) ((sent ++ x.gone) ++ y.gone) l) (append_assoc done jobs more) h))

pub keeps-tables : {P : Type 0} (tells : Bool) (taken written : P → List ℕ) (tables : List Current) (a b : Client P) → ServesUnder tells taken written tables a b
    → AnswersUnder tells taken written tables a b
keeps-tables {P} tells taken written [] a b is = record {
  rounds = [];
  currents_are = refl;
  answers = subst (λ (c : Client P). Answers tells taken written a c []) (sym is) (answers_none tells taken written a);
}
keeps-tables {P} tells taken written (t ∷ tables) a b (now, served, rest) =
    let h = keeps-tables tells taken written tables now b rest in
    record {
      rounds = (t, served.payloads) ∷ h.rounds;
      currents_are = ap (λ (l : List Current). t ∷ l) h.currents_are;
      answers = composes tells taken written a now b (jobs_of (terms_for t a) served.payloads) (jobs_under a.rights.value h.rounds) served.answers
          (subst (λ (rights : Rights). Answers tells taken written now b (jobs_under rights h.rounds)) (ap (λ rights. arc_value rights) served.rights_kept) h.answers);
    }

pub told_version : (v : Option Version) (read : List ℕ) → v ≡ version_told read → version_or_one v ≡ (arrivals_of read).version
told_version v read told = ap version_or_one told ∙ told_is read

pub standing : (session : Session) (read written : List ℕ) (jobs : List Job) → Stands session read written (arrivals jobs) (replies jobs) → IsPromised read written jobs
standing session read written jobs s =
    let f = come_fronts session.version read session.carried.items (arrivals jobs) []
    (subst (λ (l : List Arrival). HasCome session.version read l session.carried.items) (sym (append-nil (arrivals jobs))) s.came) in
    record {
      done = jobs;
      missed = [];
      are = sym (append-nil jobs);
      others = f.lost;
      came = f.came;
      rest = session.unsent;
      went = s.went ∙ ap (λ (v : Version). reply_text v (replies jobs)) (told_version session.version read f.told);
    }

fallen : (session : Session) (read written : List ℕ) (jobs : List Job) → HasFallen session read written jobs → IsPromised read written jobs
fallen session read written jobs f = record {
  done = f.done;
  missed = f.missed;
  are = f.are;
  others = f.lost;
  came = f.came;
  rest = session.unsent;
  went = f.went ∙ ap (λ (v : Version). reply_text v (replies f.done)) (told_version session.version read f.told);
}

pub promised : (c : Course) (session : Session) (read written : List ℕ) (jobs : List Job) → StandsSo c session read written jobs → IsPromised read written jobs
promised course.Open session read written jobs h = standing session read written jobs h.0
promised course.Held session read written jobs h = standing session read written jobs h
promised course.Wide session read written jobs h = standing session read written jobs h.0
promised (course.Awaiting basis) session read written jobs h =
    let f = come_fronts session.version read session.carried.items (arrivals h.done) []
    (subst (λ (l : List Arrival). HasCome session.version read l session.carried.items) (sym (append-nil (arrivals h.done))) h.stands.came) in
    record {
      done = h.done;
      missed = wide_job basis session ∷ [];
      are = h.are;
      others = f.lost;
      came = f.came;
      rest = session.unsent;
      went = h.stands.went ∙ ap (λ (v : Version). reply_text v (replies h.done)) (told_version session.version read f.told);
    }
promised course.TooLong session read written jobs h = record {
  done = jobs;
  missed = [];
  are = sym (append-nil jobs);
  others = [];
  came = h.came ∙ sym (append-nil (arrivals jobs));
  rest = session.unsent;
  went = h.went ∙ ap (λ (v : Version). reply_text v (replies jobs)) (told_version session.version read h.told);
}
promised (course.Ended why) session read written jobs h = standing session read written jobs h.0
promised (course.Fallen why) session read written jobs h = fallen session read written jobs h
