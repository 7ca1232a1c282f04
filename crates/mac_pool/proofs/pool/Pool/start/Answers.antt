use Rattle.std.proofs.Common.{ℕ, arith, sym, subst}
use Rattle.mac_pool.specs.Pool.{IsStarted}
use Rattle.mac_pool.proofs.pool.Pool.start.Goals as goal

pub hire-requires-clause-started : goal.hire-requires-clause-started
hire-requires-clause-started g c = let s = c.loop.invariant.started in λ _ _. subst (λ (w : ℕ). IsStarted w c.loop.pool) (sym s.count) s

pub hire-requires-clause-room : goal.hire-requires-clause-room
hire-requires-clause-room g c = let n = c.loop.invariant.started.count in omega arith
