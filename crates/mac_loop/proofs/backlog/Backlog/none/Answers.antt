use Rattle.std.proofs.Common.{refl}
use Rattle.mac_loop.specs.Backlog.{rounded}
use Rattle.mac_loop.proofs.backlog.Backlog.none.Goals as goal

pub returns : goal.returns
unfolding rounded
returns c = refl
