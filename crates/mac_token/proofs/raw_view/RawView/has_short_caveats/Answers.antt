use Rattle.mac_token.specs.CaveatsIn.{tally_of, spelled_in}
use Rattle.mac_token.proofs.Within.{short_ids}
use Rattle.mac_token.proofs.raw_view.RawView.has_short_caveats.Goals as goal

pub returns : goal.returns
unfolding tally_of
returns c = rw (← c.self.view_is, c.self.invariant.2) (short_ids (spelled_in c.self.inside.version c.self.inside.caveats.now))
