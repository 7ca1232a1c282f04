use Rattle.std.proofs.Common.{◌≡◌, ◌∷◌, [], refl, ap, subst, ◌∙◌}
use Rattle.mac_decide.specs.declared.job.Job.{Job}
use Rattle.mac_plain.specs.Client.{StandsSo}
use Rattle.mac_plain.specs.Dear.{GoesWide, front_of}
use Rattle.mac_plain.specs.declared.course.Course.{Course}
use Rattle.mac_plain.specs.declared.course.Course.TheVariants as course
use Rattle.mac_plain.specs.declared.course.Fall.TheVariants as fall
use Rattle.mac_plain.proofs.Asks.{asks_so}
use Rattle.mac_plain.proofs.Steps.{answers_fall, answers_still}
use Rattle.mac_plain.proofs.client.Client.ask.Goals as goal

pub returns-in_default-front_arrival-clause-answers : goal.returns-in_default-front_arrival-clause-answers
returns-in_default-front_arrival-clause-answers g c = answers_fall g.P.Port.tells g.P.Port.taken g.P.Port.written c.args.self.now fall.NoMemory

pub returns-in_default-job_of-clause-answers : goal.returns-in_default-job_of-clause-answers
returns-in_default-job_of-clause-answers g c = answers_fall g.P.Port.tells g.P.Port.taken g.P.Port.written c.args.self.now fall.NoMemory

pub returns-clause-answers : goal.returns-clause-answers
returns-clause-answers g c =
    let me = c.args.self.now in
    let job : Job = c.in-Ok-job_of.job in
    let its : GoesWide me.session.carried.items → job.arrival ≡ front_of me.session.carried.items =
    λ wide. ap (λ (j : Job). j.arrival) c.in-Ok-job_of.ensures
    ∙ subst (λ l. GoesWide l → c.in-Ok.arrival ≡ front_of l) c.as_slice.ensures.value c.in-Ok.ensures wide in
    answers_still g.P.Port.tells g.P.Port.taken g.P.Port.written me (record me { course = course.Awaiting job.basis }) (job ∷ []) refl
    (λ read sent done h. asks_so me.session read sent done job its (subst (λ (k : Course). StandsSo k me.session read sent done) c.in-Wide.is h))
