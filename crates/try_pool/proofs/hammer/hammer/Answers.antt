use Rattle.try_pool.proofs.hammer.hammer.Goals as goal

pub loop-round-preserved : goal.loop-round-preserved
loop-round-preserved g c = λ queue all. c.turn-is_right.ensures queue (c.loop-round.invariant queue all)
