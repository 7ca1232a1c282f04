use Rattle.std.proofs.Common.{◌≡◌, ◌++◌, [], ◌∷◌, refl, sym, ap, subst}
use Rattle.mac_plain.specs.Client.{answer_under, jobs_of, terms_for}
use Rattle.mac_plain.specs.Goes.{OwesSo}
use Rattle.mac_plain.specs.declared.client.Client.{Client}
use Rattle.mac_plain.specs.declared.course.Course.{Course}
use Rattle.mac_plain.specs.declared.course.Course.TheVariants as course
use Rattle.mac_plain.specs.declared.course.Fall.TheVariants as fall
use Rattle.mac_plain.proofs.Steps.{goes_still, falls_so, reply_so}
use Rattle.mac_plain.proofs.client.Client.answer.Goals as goal

pub returns-in-Fallen : goal.returns-in-Fallen
returns-in-Fallen g c current payload is =
    let me = c.args.self.now in
    goes_still g.P.Port.tells g.P.Port.taken g.P.Port.written current me me (payload ∷ []) refl refl
    (λ read sent done owed o. subst (λ (k : Course). OwesSo k me.session read sent (done ++ jobs_of (terms_for current me) (payload ∷ [])) owed) (sym c.in-Fallen.is)
    (falls_so me.course c.in-Fallen.field-0 me.session read sent done (jobs_of (terms_for current me) (payload ∷ [])) (payload ∷ owed) owed o))

pub returns-in_default-reply : goal.returns-in_default-reply
returns-in_default-reply g c current payload is =
    let me = c.args.self.now in
    goes_still g.P.Port.tells g.P.Port.taken g.P.Port.written current me (record me { course = course.Fallen fall.NoMemory }) (payload ∷ []) refl refl
    (λ read sent done owed o. falls_so me.course fall.NoMemory me.session read sent done (jobs_of (terms_for current me) (payload ∷ [])) (payload ∷ owed) owed o)

pub returns-in-Err : goal.returns-in-Err
returns-in-Err g c current payload is =
    let me = c.args.self.now in
    let same = c.in-Err.ensures.unchanged in
    goes_still g.P.Port.tells g.P.Port.taken g.P.Port.written current me (record c.put.new.self { course = course.Fallen c.in-Err.fall }) (payload ∷ [])
    (ap (λ (x : Client g.row.P.Denot). x.port) same) (ap (λ (x : Client g.row.P.Denot). x.rights) same)
    (λ read sent done owed o. subst (λ (x : Client g.row.P.Denot). OwesSo (course.Fallen c.in-Err.fall) x.session read sent (done ++ jobs_of (terms_for current me) (payload ∷ [])) owed) (sym same)
    (falls_so me.course c.in-Err.fall me.session read sent done (jobs_of (terms_for current me) (payload ∷ [])) (payload ∷ owed) owed o))

pub returns-in_default-put : goal.returns-in_default-put
returns-in_default-put g c current payload is =
    let me = c.args.self.now in
    let put = c.in_default-put.ensures.put in
    let told : c.in-Some.reply.now ≡ answer_under (terms_for current me) payload = rw c.in-Some.is at is in
    goes_still g.P.Port.tells g.P.Port.taken g.P.Port.written current me c.put.new.self (payload ∷ [])
    (ap (λ (x : Client g.row.P.Denot). x.port) put) (ap (λ (x : Client g.row.P.Denot). x.rights) put)
    (λ read sent done owed o. subst (λ (x : Client g.row.P.Denot). OwesSo x.course x.session read sent (done ++ jobs_of (terms_for current me) (payload ∷ [])) owed) (sym put)
    (reply_so me.course c.in_default.not-Fallen me.session read sent done (terms_for current me) payload owed c.in-Some.reply.now told o))
