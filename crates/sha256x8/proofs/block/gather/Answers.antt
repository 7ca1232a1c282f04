use Rattle.sha256x8.proofs.LaneWise.{below_eight}
use Rattle.sha256x8.proofs.block.gather.Goals as goal

pub returns : goal.returns
returns c = below_eight _ c.load_be.ensures c.load_be-2.ensures c.load_be-3.ensures
    c.load_be-4.ensures c.load_be-5.ensures c.load_be-6.ensures c.load_be-7.ensures
    c.load_be-8.ensures
