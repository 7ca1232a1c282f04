use Rattle.std.proofs.Common.{sym}
use Rattle.sha256x8.proofs.PaddedBlocks.{length-padded_text}
use Rattle.sha256x8.proofs.padding.block_count.Goals as goal

pub returns : goal.returns
returns c = sym (length-padded_text c.args.text.now)
