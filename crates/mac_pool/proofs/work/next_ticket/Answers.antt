use Rattle.std.proofs.Common.{ap, refl, ◌∙◌}
use Rattle.mac_queue.specs.Pass.{Pass}
use Rattle.mac_pool.proofs.Claims.{few_claimed, claimed_later}
use Rattle.mac_pool.proofs.work.next_ticket.Goals as goal

pub loop-init : goal.loop-init
loop-init g c = refl

pub claim-requires-after_bounds : goal.claim-requires-after_bounds
claim-requires-after_bounds g c = λ _ _. ap (λ (p : Pass g.row.S-Job.Denot). p.queue) c.loop.invariant ∙ c.requires

pub returns-in-Got-clause-claimed : goal.returns-in-Got-clause-claimed
returns-in-Got-clause-claimed g c = claimed_later _ _ _ _ c.loop.invariant c.in-Got.ensures.claimed

pub returns-in-Got-clause-few : goal.returns-in-Got-clause-few
returns-in-Got-clause-few g c = few_claimed _ _ _ c.in-Got.ensures.claimed c.in-Got.ensures.few

pub returns-in-Closed-clause-same : goal.returns-in-Closed-clause-same
returns-in-Closed-clause-same g c = c.in-Closed.ensures.claimed ∙ c.loop.invariant

pub claim-requires-in-loop-after_bounds : goal.claim-requires-in-loop-after_bounds
claim-requires-in-loop-after_bounds g c =
    λ _ _. ap (λ (p : Pass g.row.S-Job.Denot). p.queue) (c.in-Empty.ensures.claimed ∙ c.loop.invariant) ∙ c.requires

pub returns-in-Got-claim-clause-claimed : goal.returns-in-Got-claim-clause-claimed
returns-in-Got-claim-clause-claimed g c =
    claimed_later _ _ _ _ (c.in-Empty.ensures.claimed ∙ c.loop.invariant) c.in-Got-claim.ensures.claimed

pub returns-in-Got-claim-clause-few : goal.returns-in-Got-claim-clause-few
returns-in-Got-claim-clause-few g c = few_claimed _ _ _ c.in-Got-claim.ensures.claimed c.in-Got-claim.ensures.few

pub returns-in-Closed-claim-clause-same : goal.returns-in-Closed-claim-clause-same
returns-in-Closed-claim-clause-same g c =
    c.in-Closed-claim.ensures.claimed ∙ c.in-Empty.ensures.claimed ∙ c.loop.invariant

pub loop-preserved : goal.loop-preserved
loop-preserved g c = c.in-Empty-claim.ensures.claimed ∙ c.in-Empty.ensures.claimed ∙ c.loop.invariant
