use Rattle.std.proofs.Common.{◌≡◌, ◌++◌, ◌∙◌, ◌∷◌, [], refl, ap}
use Rattle.mac_order.specs.Ring.{admitted}
use Rattle.mac_decide.specs.Terms.{lent_terms}
use Rattle.mac_decide.specs.World.{job_under}
use Rattle.mac_decide.specs.declared.job.Job.{Job}
use Rattle.mac_serve.specs.declared.incoming.InboundFault.TheVariants as fault
use Rattle.mac_serve.proofs.ReceivingLemmas.{receives-put, receives-residual, takes-none}
use Rattle.mac_serve.proofs.inbound.Inbound.take_arrival.Goals as goal

pub returns-in_err-job : goal.returns-in_err-job
returns-in_err-job g c =
    receives-residual (job_under (lent_terms c.args.terms) c.args.arrival ∷ []) c.from_residual.result fault.NoMemory c.args.self.now c.args.self.now c.from_residual.ensures.1 (λ is. absurd cc)
    (takes-none (job_under (lent_terms c.args.terms) c.args.arrival ∷ []) c.args.self.now c.args.self.now ((refl, refl, refl, refl), refl) refl refl)

pub returns-in_err-copy : goal.returns-in_err-copy
returns-in_err-copy g c =
    receives-residual (job_under (lent_terms c.args.terms) c.args.arrival ∷ []) c.from_residual-in_err-copy.result fault.NoMemory c.args.self.now c.args.self.now c.from_residual-in_err-copy.ensures.1 (λ is. absurd cc)
    (takes-none (job_under (lent_terms c.args.terms) c.args.arrival ∷ []) c.args.self.now c.args.self.now ((refl, refl, refl, refl), refl) refl refl)

pub returns-in_err-place : goal.returns-in_err-place
returns-in_err-place g c =
    receives-residual (job_under (lent_terms c.args.terms) c.args.arrival ∷ []) c.from_residual-in_err-place.result c.in_err-place.field-0.0 c.args.self.now c.admit.new.self
    c.from_residual-in_err-place.ensures.1 (λ is. let was = c.in_err-place.was in c.admit.ensures.no_read cc)
    (takes-none (job_under (lent_terms c.args.terms) c.args.arrival ∷ []) c.args.self.now c.admit.new.self c.admit.ensures.ring c.in_err-place.ensures.refused c.in_err-place.ensures.putter)

pub returns : goal.returns
returns g c =
    let job : Job = job_under (lent_terms c.args.terms) c.args.arrival in
    let copied : c.in_ok-copy.copy ≡ job = c.in_ok-copy.ensures ∙ c.in_ok-job.ensures in
    let put = rw c.in_ok-job.ensures at c.put.ensures.put in
    receives-put c.put.result job c.in_ok-place.place c.args.self.now c.admit.new.self c.put.new.self
    c.admit.ensures.ring c.put.ensures.no_read (c.in_ok-place.ensures.admitted ∙ ap (λ (j : Job). admitted c.args.self.now.ring ++ j ∷ []) copied)
    c.in_ok-place.ensures.putter c.put.ensures.ring c.in_ok-place.ensures.place put c.put.ensures.same
