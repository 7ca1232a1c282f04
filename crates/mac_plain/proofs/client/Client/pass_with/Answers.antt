use Rattle.std.proofs.Common.{ℕ, List, ap, subst, inl, inr}
use Rattle.mac_plain.specs.Asking.{IsPassed}
use Rattle.mac_plain.specs.Dear.{GoesWide}
use Rattle.mac_plain.specs.declared.client.Client.{Client}
use Rattle.mac_plain.specs.declared.course.Course.TheVariants as course
use Rattle.mac_plain.proofs.client.Client.pass_with.Goals as goal

pub returns-in-Ok : goal.returns-in-Ok
returns-in-Ok g c =
    let P = g.row.P.Denot in
    let carried = c.pass_front-self.new.carried in
    let goes = c.pass_front-self.result in
    let put = c.in-Ok.ensures.put in
    inl (record {
      after_is = ap (λ (x : Client P). record x { session = record x.session { carried = carried }; course = goes }) put;
      passed = subst (λ (l : List ℕ). GoesWide l → IsPassed l carried.items goes) (ap (λ (x : Client P). x.session.carried.items) put) c.pass_front-self.ensures;
    })

pub returns-in-Err : goal.returns-in-Err
returns-in-Err g c =
    let P = g.row.P.Denot in
    inr (c.in-Err.fall, ap (λ (x : Client P). record x { course = course.Fallen c.in-Err.fall }) c.in-Err.ensures.unchanged)
