use Rattle.std.proofs.Common.{◌≡◌, ◌+◌, length}
use Rattle.mac_decide.specs.Folding.{end_of}
use Rattle.mac_decide.proofs.folding.Folding.finish.Given as goal

abbrev pub invariant-loop : goal.invariant-loop
invariant-loop l = record {
  end : end_of l.self ≡ end_of l.fn.self;
  left : length l.self.left + l.counter ≡ length l.fn.self.left;
}
