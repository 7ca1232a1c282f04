use Rattle.std.proofs.Common.{refl}
use Rattle.mac_serve.proofs.SendingLemmas.{alone, out-same, took-none, stands-settled, fell-failed, fell-unsettled}
use Rattle.mac_serve.proofs.outbound.Outbound.settle_next.Goals.{in-Ok, in-Err}
use Rattle.mac_serve.proofs.outbound.Outbound.settle_next.Goals as goal

pub returns-in_default : goal.returns-in_default
returns-in_default g c = took-none _ c.args.self.now c.take.new.self (rw c.in_default.is at c.take.ensures.same)

pub returns-in-Failed : goal.returns-in-Failed
returns-in-Failed g c = alone _ c.args.self.now _ tt (((refl, refl, refl, refl), refl), refl, refl) refl
    (λ earlier s. fell-failed earlier c.take.new.self c.args.self.now c.in-Failed.field-0 s (rw c.in-Failed.is at c.in-Some.ensures.taken))

pub returns-after-settle : goal.returns-after-settle
returns-after-settle g c =
    let posted = rw c.in-Answered.is at c.in-Some.ensures.taken in
    elim c.match-settle.branch [
      | in-Ok w ↦ rw w.result-is (alone _ c.args.self.now _ tt (c.settle.ensures.ring.0, refl, refl) (out-same c.args.self.now c.settle.new.self c.settle.ensures.ring.1)
          (λ earlier s. stands-settled earlier c.take.new.self c.args.self.now c.settle.new.self c.in-Answered.place c.in-Answered.answer s c.settle.ensures.kept
          posted c.settle.ensures.ring.1 w.in-Ok.ensures.settled))
      | in-Err w ↦ rw w.result-is (alone _ c.args.self.now _ tt (c.settle.ensures.ring.0, refl, refl) (out-same c.args.self.now c.settle.new.self c.settle.ensures.ring.1)
          (λ earlier s. fell-unsettled earlier c.take.new.self c.args.self.now c.settle.new.self c.in-Answered.place c.in-Answered.answer _ s
          posted c.settle.ensures.ring.1 w.in-Err.ensures.refused w.in-Err.ensures.fault))
    ]
