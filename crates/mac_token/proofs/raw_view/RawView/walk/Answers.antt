use Rattle.mac_token.specs.CaveatsIn.{ids_in}
use Rattle.mac_token.proofs.raw_view.RawView.walk.Goals as goal

pub returns : goal.returns
unfolding ids_in
returns c = rw (← c.self.view_is)
