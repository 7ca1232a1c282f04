use Rattle.sha256x8.proofs.Majority.{maj_short}
use Rattle.sha256x8.proofs.word.maj.Goals as goal

pub returns : goal.returns
returns c = maj_short c.args.x c.args.y c.args.z
