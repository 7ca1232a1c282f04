-- What a client goes on wide for, where the reply to it is known at once.
use Rattle.std.proofs.Common.{◌≡◌, ℕ, List, [], ◌∷◌, ◌++◌, refl, sym, ap, subst, ◌∙◌, inl, inr}
use Rattle.std.specs.Prelude.{Bool, nat_lt}
use Rattle.std.proofs.lemmas.List.{append-nil}
use Rattle.mac_wire.specs.declared.arrival.TheConstants.{FRAME_MAX}
use Rattle.mac_wire.specs.declared.reply.Reply.{Reply}
use Rattle.mac_wire.specs.Frame.{told_length}
use Rattle.mac_decide.specs.Prepared.{reply_to_job}
use Rattle.mac_decide.specs.declared.job.Job.{Job}
use Rattle.mac_plain.specs.Asking.{PassesWith, Takes}
use Rattle.mac_plain.specs.Client.{Answers, Awaits, StandsSo}
use Rattle.mac_board.specs.Noticed.{Current}
use Rattle.mac_plain.specs.Dear.{front_of}
use Rattle.mac_plain.specs.Goes.{Goes, after_reply}
use Rattle.mac_plain.specs.declared.client.Client.{Client}
use Rattle.mac_plain.specs.declared.course.Course.{Course}
use Rattle.mac_plain.specs.declared.course.Course.TheVariants as course
use Rattle.mac_plain.proofs.Asks.{asks_so, passes, same_job}
use Rattle.mac_plain.proofs.Promises.{composes}
use Rattle.mac_plain.proofs.Steps.{answers_fall, answers_still, begins_so, ends_so}

-- the reply to a job was passed: the client takes it
pub takes_reply : {P : Type 0} (before after : Client P) (reply : Reply) (job : Job) → reply ≡ reply_to_job job → PassesWith reply before after → Takes job before after
takes_reply {P} before after reply job is (inl r) = inl (record {
  unsent = ap (λ (x : Client P). x.session.unsent) r.after_is ∙ ap (λ (q : Reply). (after_reply before.session q).unsent) is;
  passed = r.passed;
})
takes_reply before after reply job is (inr fell) = inr fell

-- who is passed keeps its rights
pub keeps_rights : {P : Type 0} (before after : Client P) (reply : Reply) → PassesWith reply before after → after.rights ≡ before.rights
keeps_rights {P} before after reply (inl r) = ap (λ (x : Client P). x.rights) r.after_is
keeps_rights {P} before after reply (inr fell) = ap (λ (x : Client P). x.rights) fell.1

-- a client that waits for the answer to a job has it
pub lets_go : {P : Type 0} (tells : Bool) (taken written : P → List ℕ) (before after : Client P) (reply : Reply) (job : Job) → before.course ≡ course.Awaiting job.basis
    → job.arrival ≡ front_of before.session.carried.items → reply ≡ reply_to_job job → PassesWith reply before after → Answers tells taken written before after []
lets_go {P} tells taken written before after reply job awaits its is (inl r) =
    answers_still tells taken written before after [] (ap (λ (x : Client P). x.port) r.after_is)
    (λ read sent done h.
    let a : Awaits job.basis before.session read sent done = subst (λ (k : Course). StandsSo k before.session read sent done) awaits h in
    subst (λ (l : List Job). StandsSo after.course after.session read sent l) (sym (append-nil done))
    (passes job.basis before.session after.session after.course reply job read sent done (nat_lt FRAME_MAX (told_length before.session.carried.items)) refl (r.passed a.wide)
    (ap (λ (x : Client P). x.session) r.after_is) is (same_job job.basis before.session job refl its) a))
lets_go {P} tells taken written before after reply job awaits its is (inr fell) =
    subst (λ (x : Client P). Answers tells taken written before x []) (sym fell.1) (answers_fall tells taken written before fell.0)

-- who waits for the answer is passed as who went on wide
from_mid : {P : Type 0} (before after : Client P) (goes : Course) (reply : Reply) → PassesWith reply before after → PassesWith reply (record before { course = goes }) after
from_mid before after goes reply (inl r) = inl (record { after_is = r.after_is; passed = r.passed })
from_mid before after goes reply (inr fell) = inr fell

-- a client that goes on wide for a job has the reply to it: as if it had asked, and then had the answer
pub known_at_once : {P : Type 0} (tells : Bool) (taken written : P → List ℕ) (before after : Client P) (reply : Reply) (job : Job) → before.course ≡ course.Wide
    → job.arrival ≡ front_of before.session.carried.items → reply ≡ reply_to_job job → PassesWith reply before after → Answers tells taken written before after (job ∷ [])
known_at_once {P} tells taken written before after reply job wide its is passed =
    let mid : Client P = record before { course = course.Awaiting job.basis } in
    let asks : Answers tells taken written before mid (job ∷ []) =
    answers_still tells taken written before mid (job ∷ []) refl
    (λ read sent done h. asks_so before.session read sent done job (λ _. its) (subst (λ (k : Course). StandsSo k before.session read sent done) wide h)) in
    composes tells taken written before mid after (job ∷ []) [] asks (lets_go tells taken written mid after reply job refl its is (from_mid before after (course.Awaiting job.basis) reply passed))

-- what goes out meanwhile answers nothing more
pub goes_answers : {P : Type 0} (tells : Bool) (taken written : P → List ℕ) (current : Current) (a b : Client P) → Goes tells taken written current a b [] [] → Answers tells taken written a b []
goes_answers tells taken written current a b g = record {
  came = g.came;
  gone = g.gone;
  took = g.took;
  wrote = g.wrote;
  goes_on = λ read sent done h. ends_so b.course b.session (read ++ g.came) (sent ++ g.gone) (done ++ []) (g.goes_on read sent done [] (begins_so a.course a.session read sent done h));
}
