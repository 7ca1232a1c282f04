use Rattle.std.proofs.Common.{ap}
use Rattle.mac_queue.specs.Line.{Line}
use Rattle.mac_pool.proofs.Moves.{idle_at}
use Rattle.mac_pool.proofs.pool.Pool.dismiss.Goals as goal

pub bring_back-requires-clause-given : goal.bring_back-requires-clause-given
bring_back-requires-clause-given g c =
    λ _ _. idle_at c.deref-2.result.now.tickets _ _ (ap (λ (l : Line). l.tickets) c.deref-2.ensures) c.self.invariant.given_are
