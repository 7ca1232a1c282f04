use Rattle.std.proofs.Common.{refl}
use Rattle.sha256x8.proofs.LaneWise.{below_eight}
use Rattle.sha256x8.proofs.begun.row_of.Goals as goal

pub returns : goal.returns
returns c = below_eight _ refl refl refl refl refl refl refl refl
