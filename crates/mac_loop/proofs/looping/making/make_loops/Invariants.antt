use Rattle.std.proofs.Common.{◌≡◌, length}
use Rattle.mac_loop.specs.Made.{AreInOrder, count_sides}
use Rattle.mac_loop.specs.Register.{StandsForMore}
use Rattle.mac_loop.proofs.looping.making.make_loops.Given as goal

-- each loop so far has its part and its number, and others can reach it
abbrev pub invariant-loop-number : goal.invariant-loop-number
invariant-loop-number g l = record {
  left : StandsForMore l.register l.number l.fn.register;
  count : length l.made.items ≡ l.number;
  sides : count_sides l.loops ≡ l.number;
  numbers : AreInOrder 0 l.made.items;
}
