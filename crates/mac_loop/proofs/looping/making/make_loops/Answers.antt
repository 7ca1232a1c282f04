use Rattle.std.proofs.Common.{arith, rules}
use Rattle.mac_loop.proofs.MadeLemmas.{in_order-next}
use Rattle.mac_loop.proofs.looping.making.make_loops.Goals as goal

pub loop-number-preserved : goal.loop-number-preserved
loop-number-preserved g c = record {
  left = search rules;
  count = search rules;
  sides = search rules;
  numbers = rw (← c.in_ok-push.ensures.items) at (in_order-next 0 c.loop-number.made.items c.in_ok-one.one c.loop-number.invariant.numbers (omega (arith, c.in_ok-one.ensures, c.loop-number.invariant.count)));
}
