use Rattle.mac_token.specs.CaveatsIn.{tally_of}
use Rattle.mac_token.proofs.raw_view.RawView.has_vid.Goals as goal

pub returns : goal.returns
unfolding tally_of
returns c = rw (← c.self.view_is, c.self.invariant.2)
