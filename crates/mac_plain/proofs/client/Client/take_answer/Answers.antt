use Rattle.std.proofs.Common.{◌≡◌, ℕ, List, [], refl, sym, ap, subst, rules}
use Rattle.std.specs.Prelude.{nat_lt}
use Rattle.std.proofs.lemmas.List.{append-nil}
use Rattle.mac_wire.specs.Frame.{told_length}
use Rattle.mac_wire.specs.Reply.{IsReply}
use Rattle.mac_wire.specs.declared.arrival.TheConstants.{FRAME_MAX}
use Rattle.mac_wire.specs.declared.session.Session.{Session}
use Rattle.mac_decide.proofs.SendableLemmas.{reply-sent}
use Rattle.mac_decide.specs.declared.job.Job.{Job}
use Rattle.mac_plain.specs.Asking.{IsPassed}
use Rattle.mac_plain.specs.Client.{Answers, StandsSo}
use Rattle.mac_plain.specs.Dear.{GoesWide, front_of}
use Rattle.mac_plain.specs.declared.client.Client.{Client}
use Rattle.mac_plain.specs.declared.course.Course.{Course}
use Rattle.mac_plain.specs.declared.course.Course.TheVariants as course
use Rattle.mac_plain.proofs.Asks.{passes, same_job}
use Rattle.mac_plain.proofs.Steps.{answers_fall, answers_none, answers_still}
use Rattle.mac_plain.proofs.client.Client.take_answer.Goals as goal

pub returns-in_default-clause-answers : goal.returns-in_default-clause-answers
returns-in_default-clause-answers g c = answers_none g.P.Port.tells g.P.Port.taken g.P.Port.written c.args.self.now

pub returns-then-not-is_job_of-clause-answers : goal.returns-then-not-is_job_of-clause-answers
returns-then-not-is_job_of-clause-answers g c = answers_none g.P.Port.tells g.P.Port.taken g.P.Port.written c.args.self.now

pub put-requires : goal.put-requires
put-requires g c = subst IsReply (sym c.requires) (reply-sent c.args.job.now.arrival c.args.job.now.basis)

pub returns-in-Err-clause-answers : goal.returns-in-Err-clause-answers
returns-in-Err-clause-answers g c =
    let me = c.args.self.now in
    let P = g.row.P.Denot in
    subst (λ (x : Client P). Answers g.P.Port.tells g.P.Port.taken g.P.Port.written me (record x { course = course.Fallen c.in-Err.fall }) []) (sym c.in-Err.ensures.unchanged)
    (answers_fall g.P.Port.tells g.P.Port.taken g.P.Port.written me c.in-Err.fall)

pub returns-clause-answers : goal.returns-clause-answers
returns-clause-answers g c =
    let me = c.args.self.now in
    let P = g.row.P.Denot in
    let put = c.in_default-put.ensures.put in
    let job : Job = c.args.job.now in
    let basis = c.in-Awaiting.basis in
    let carried = c.pass_front-self.new.carried in
    let goes : Course = c.pass_front-self.result in
    let session : Session = record c.put.new.self.session { carried = carried } in
    let same_basis : job.basis ≡ basis = search rules in
    let fronts : GoesWide c.as_slice.result.now → job.arrival ≡ front_of c.as_slice.result.now = search rules in
    let its : GoesWide me.session.carried.items → job.arrival ≡ front_of me.session.carried.items =
    subst (λ (l : List ℕ). GoesWide l → job.arrival ≡ front_of l) c.as_slice.ensures.value fronts in
    let passed : GoesWide me.session.carried.items → IsPassed me.session.carried.items carried.items goes =
    subst (λ (l : List ℕ). GoesWide l → IsPassed l carried.items goes) (ap (λ (x : Client P). x.session.carried.items) put) c.pass_front-self.ensures in
    answers_still g.P.Port.tells g.P.Port.taken g.P.Port.written me (record c.put.new.self { session = session; course = goes }) [] (ap (λ (x : Client P). x.port) put)
    (λ read sent done h.
    let a = subst (λ (k : Course). StandsSo k me.session read sent done) c.in-Awaiting.is h in
    subst (λ (l : List Job). StandsSo goes session read sent l) (sym (append-nil done))
    (passes basis me.session session goes c.args.reply.now job read sent done (nat_lt FRAME_MAX (told_length me.session.carried.items)) refl (passed a.wide)
    (ap (λ (x : Client P). record x.session { carried = carried }) put) c.requires (same_job basis me.session job same_basis (its a.wide)) a))
