use Rattle.std.proofs.Common.{arith}
use Rattle.sha256x8.proofs.LaneWise.{text_at_is}
use Rattle.sha256x8.proofs.padding.greatest_count.Goals as goal

pub returns : goal.returns
returns c = λ j lt. rw (text_at_is c.args.texts.now j) (c.loop-text.invariant j (omega arith))
