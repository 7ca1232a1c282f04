use Rattle.std.proofs.Common.{arith}
use Rattle.mac_token.specs.CaveatsIn.{tally_of}
use Rattle.mac_token.proofs.raw_view.RawView.count.Goals as goal

pub returns : goal.returns
unfolding tally_of
returns c = rw (← c.self.view_is, c.self.invariant.2) (omega arith)
