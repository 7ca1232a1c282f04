use Rattle.std.proofs.Common.{◌<◌, length, arith, refl}
use Rattle.try_pool.proofs.Moved.{written}
use Rattle.try_pool.proofs.hammer.turn.Goals as goal

pub loop-number-preserved : goal.loop-number-preserved
loop-number-preserved g c =
    let less = c.loop-number-test.true in
    let end = c.len-number-end.ensures in
    let size = c.loop-number.invariant.1 in
    let below : c.loop-number.number < length c.loop-number.desks.items = omega arith in
    written _ _ _ _ _ _ c.loop-number.invariant below c.index_mut.ensures.value c.give-is_right.ensures

pub loop-number-2-preserved : goal.loop-number-2-preserved
loop-number-2-preserved g c =
    let less = c.loop-number-2-test.true in
    let end = c.len-number-end-2.ensures in
    let size = c.loop-number.invariant.1 in
    let size_2 = c.loop-number-2.invariant.1 in
    let below : c.loop-number-2.number < length c.loop-number-2.desks.items = omega arith in
    written _ _ _ _ _ _ c.loop-number-2.invariant below c.index_mut-in-loop-number-2.ensures.value refl
