-- A request that a loop must not answer, and its answer.
use Rattle.std.proofs.Common.{◌≡◌, ℕ, ◌+◌, ◌<◌, List, [], ◌∷◌, ◌++◌, length, take, drop, refl, sym, ap, subst, ◌∙◌, inl, inr, cond, lt-ltb, arith}
use Rattle.std.specs.Prelude.{Bool, true, false, Option, Some, None, nat_lt}
use Rattle.std.proofs.lemmas.Bool.{false≢true}
use Rattle.std.proofs.lemmas.List.{append-nil, length-drop, length-map, map-append}
use Rattle.mac_wire.specs.declared.arrival.Arrival.{Arrival}
use Rattle.mac_wire.specs.declared.arrival.Arrival.TheVariants as arrival
use Rattle.mac_wire.specs.declared.arrival.Ending.TheVariants as ending
use Rattle.mac_wire.specs.declared.arrival.TheConstants.{FRAME_MAX}
use Rattle.mac_wire.specs.declared.reply.Reply.{Reply}
use Rattle.mac_wire.specs.declared.session.Session.{Session}
use Rattle.mac_wire.specs.declared.version.Version.{Version}
use Rattle.mac_wire.specs.Cut.{IsFront}
use Rattle.mac_wire.specs.Frame.{Frames, told_length}
use Rattle.mac_wire.specs.Partial.{IsTooLong}
use Rattle.mac_wire.specs.Session.{HasCome, Stands}
use Rattle.mac_wire.specs.Stream.{Arrivals, arrivals_of}
use Rattle.mac_wire.proofs.Frames.{frames_of-too_long}
use Rattle.mac_wire.proofs.Sessions.{come_cut, come_fronts, front_arrives}
use Rattle.mac_decide.specs.Prepared.{reply_to_job}
use Rattle.mac_decide.specs.declared.job.Basis.{Basis}
use Rattle.mac_decide.specs.declared.job.Job.{Job}
use Rattle.mac_plain.specs.Asking.{IsPassedSo}
use Rattle.mac_plain.specs.Client.{Awaits, EndsTooLong, StandsSo, arrivals, replies, wide_job}
use Rattle.mac_plain.specs.Dear.{GoesWide, front_of}
use Rattle.mac_plain.specs.Goes.{Owes, after_reply}
use Rattle.mac_plain.specs.declared.course.Course.{Course}
use Rattle.mac_plain.specs.declared.course.Course.TheVariants as course
use Rattle.mac_plain.proofs.Steps.{owes_answer, owes_stands, went_more}

-- a job, by what it is asked with
on_basis : Basis → Arrival → Job
on_basis basis a = record { arrival = a; basis = basis }

-- the job that is asked is answered next
pub asks_so : (session : Session) (read sent : List ℕ) (done : List Job) (job : Job) → (GoesWide session.carried.items → job.arrival ≡ front_of session.carried.items)
    → StandsSo course.Wide session read sent done → StandsSo (course.Awaiting job.basis) session read sent (done ++ job ∷ [])
unfolding on_basis
asks_so session read sent done job is s = record {
  done = done;
  are = ap (λ (a : Arrival). done ++ on_basis job.basis a ∷ []) (is s.1);
  stands = s.0;
  wide = s.1;
}

not_both : (a b : ℕ) → a < b → nat_lt a b ≡ false → ⊥
not_both a b less e = false≢true (sym e ∙ lt-ltb a b less)

-- the jobs with the one that has its answer now
all_done : (basis : Basis) (before : Session) (read sent : List ℕ) (jobs : List Job) (job : Job) → job ≡ wide_job basis before → (a : Awaits basis before read sent jobs)
    → a.done ++ job ∷ [] ≡ jobs
all_done basis before read sent jobs job is a = ap (λ (j : Job). a.done ++ j ∷ []) is ∙ sym a.are

-- a whole frame in front has its reply, and the next ones stand behind it
pub takes_whole : (basis : Basis) (before after : Session) (reply : Reply) (job : Job) (read sent : List ℕ) (jobs : List Job)
    → nat_lt FRAME_MAX (told_length before.carried.items) ≡ false → after.carried.items ≡ drop (4 + told_length before.carried.items) before.carried.items
    → after ≡ after_reply (record before { carried = after.carried }) reply → reply ≡ reply_to_job job → job ≡ wide_job basis before → Awaits basis before read sent jobs
    → Stands after read sent (arrivals jobs) (replies jobs)
takes_whole basis before after reply job read sent jobs small behind after_is is job_is a =
    let carried : List ℕ = before.carried.items in
    let told : ℕ = told_length carried in
    let payload : List ℕ = take told (drop 4 carried) in
    let rest : List ℕ = drop (4 + told) carried in
    let now : Session = record before { carried = after.carried } in
    elim a.wide.1 [
      | inl too ↦ absurd (not_both FRAME_MAX told too small)
      | inr fits ↦
          let front : IsFront FRAME_MAX carried payload rest = record { long = a.wide.0; allowed = fits.0; whole = fits.1; payload_is = refl; rest_is = refl } in
          let asks : job.arrival ≡ arrival.Payload payload = ap (λ (j : Job). j.arrival) job_is ∙ ap (λ (t : Bool). cond t arrival.Oversize (arrival.Payload payload)) small in
          let cut : HasCome before.version read (arrivals a.done ++ arrival.Payload payload ∷ []) rest =
          come_cut before.version read carried rest (arrivals a.done) (arrival.Payload payload ∷ []) a.stands.came (front_arrives FRAME_MAX carried payload rest (omega arith) front)
          (omega (arith, length-drop (4 + told) carried)) in
          let owes : Owes now read sent a.done (payload ∷ []) = record {
            came = subst (λ (l : List ℕ). HasCome before.version read (arrivals a.done ++ arrival.Payload payload ∷ []) l) (sym behind) cut;
            went = a.stands.went;
            counted = a.stands.counted ∙ length-map a.done reply_to_job;
          } in
          let stands : Stands (after_reply now reply) read sent (arrivals (a.done ++ job ∷ [])) (replies (a.done ++ job ∷ [])) =
          owes_stands (after_reply now reply) read sent (a.done ++ job ∷ []) (owes_answer now read sent a.done job payload [] reply is asks owes) in
          subst (λ (l : List Job). Stands after read sent (arrivals l) (replies l)) (all_done basis before read sent jobs job job_is a)
          (subst (λ (s : Session). Stands s read sent (arrivals (a.done ++ job ∷ [])) (replies (a.done ++ job ∷ []))) (sym after_is) stands)
    ]

-- behind a frame that is too long nothing arrives
too_long_ends : (v : Option Version) (read carried : List ℕ) (arrived : List Arrival) → HasCome v read arrived carried → IsTooLong carried
    → ((arrivals_of read).arrived ≡ arrived ++ arrival.Oversize ∷ []) × ((arrivals_of read).ending ≡ ending.Oversize)
too_long_ends None read carried arrived (none, nothing, empty) too = absurd (omega (arith, too.long, ap length empty))
too_long_ends (Some v) read carried arrived (told, are) too = (
  ap (λ (l : List ℕ). (arrivals_of l).arrived) (sym (append-nil read)) ∙ ap (λ (x : Arrivals). x.arrived) (are [])
      ∙ ap (λ (f : Frames). arrived ++ f.arrived) (frames_of-too_long carried [] too),
  ap (λ (l : List ℕ). (arrivals_of l).ending) (sym (append-nil read)) ∙ ap (λ (x : Arrivals). x.ending) (are [])
      ∙ ap (λ (f : Frames). f.ending) (frames_of-too_long carried [] too),
)

-- a frame that is too long is refused
pub takes_too_long : (basis : Basis) (before after : Session) (reply : Reply) (job : Job) (read sent : List ℕ) (jobs : List Job)
    → nat_lt FRAME_MAX (told_length before.carried.items) ≡ true
    → after ≡ after_reply (record before { carried = after.carried }) reply → reply ≡ reply_to_job job → job ≡ wide_job basis before → Awaits basis before read sent jobs
    → EndsTooLong after read sent jobs
takes_too_long basis before after reply job read sent jobs long after_is is job_is a =
    let carried : List ℕ = before.carried.items in
    let told : ℕ = told_length carried in
    let now : Session = record before { carried = after.carried } in
    elim a.wide.1 [
      | inr fits ↦ absurd (let e : nat_lt FRAME_MAX told ≡ false = grind (arith, fits.0) in false≢true (sym e ∙ long))
      | inl too ↦
          let f = come_fronts before.version read carried (arrivals a.done) [] (subst (λ (l : List Arrival). HasCome before.version read l carried) (sym (append-nil (arrivals a.done))) a.stands.came) in
          let ends = too_long_ends before.version read carried (arrivals a.done) a.stands.came (record { long = a.wide.0; passed = too }) in
          let asks : job.arrival ≡ arrival.Oversize = ap (λ (j : Job). j.arrival) job_is ∙ ap (λ (t : Bool). cond t arrival.Oversize (arrival.Payload (take told (drop 4 carried)))) long in
          let done = all_done basis before read sent jobs job job_is a in
          let whole : EndsTooLong (after_reply now reply) read sent (a.done ++ job ∷ []) = record {
            told = f.told;
            came = ends.0 ∙ ap (λ (x : Arrival). arrivals a.done ++ x ∷ []) (sym asks) ∙ sym (map-append (λ (j : Job). j.arrival) a.done (job ∷ []));
            ends = ends.1;
            went = went_more now sent a.done job reply is a.stands.went (a.stands.counted ∙ length-map a.done reply_to_job);
          } in
          subst (EndsTooLong after read sent) done (subst (λ (s : Session). EndsTooLong s read sent (a.done ++ job ∷ [])) (sym after_is) whole)
    ]

-- whatever stood in front, it has its answer
pub passes : (basis : Basis) (before after : Session) (goes : Course) (reply : Reply) (job : Job) (read sent : List ℕ) (jobs : List Job) (t : Bool)
    → nat_lt FRAME_MAX (told_length before.carried.items) ≡ t → IsPassedSo t before.carried.items after.carried.items goes
    → after ≡ after_reply (record before { carried = after.carried }) reply → reply ≡ reply_to_job job → job ≡ wide_job basis before → Awaits basis before read sent jobs
    → StandsSo goes after read sent jobs
passes basis before after goes reply job read sent jobs true e (goes_is, kept) after_is is job_is a =
    subst (λ (c : Course). StandsSo c after read sent jobs) (sym goes_is) (takes_too_long basis before after reply job read sent jobs e after_is is job_is a)
passes basis before after goes reply job read sent jobs false e (goes_is, behind) after_is is job_is a =
    subst (λ (c : Course). StandsSo c after read sent jobs) (sym goes_is) (takes_whole basis before after reply job read sent jobs e behind after_is is job_is a)

-- a job of this arrival, on this basis
pub same_job : (basis : Basis) (session : Session) (job : Job) → job.basis ≡ basis → job.arrival ≡ front_of session.carried.items → job ≡ wide_job basis session
same_job basis session job b a = λ i. record { arrival = a i; basis = b i }
