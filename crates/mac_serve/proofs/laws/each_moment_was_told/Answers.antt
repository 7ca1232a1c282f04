use Rattle.mac_serve.proofs.ToldMoments.{moments-told}
use Rattle.mac_serve.proofs.laws.each_moment_was_told.Goals as goal

pub returns : goal.returns
returns c = moments-told
