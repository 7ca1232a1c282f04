use Rattle.std.proofs.Common.{[], slice_index_or, ◌∙◌}
use Rattle.sha256x8.specs.Lanes.{lane_state}
use Rattle.sha256x8.proofs.PaddedBlocks.{after_block_is}
use Rattle.sha256x8.proofs.digests.take_block.Goals as goal

pub returns : goal.returns
returns c = λ j lt.
    let block = slice_index_or c.padded_blocks.result j [] in
    c.chosen.ensures j lt
    ∙ after_block_is (lane_state j c.args.state.now) (lane_state j c.compress.new.state) block _
    c.args.index _
    (c.have_block.ensures j lt) (c.compress.ensures j lt block (c.words_of.ensures j lt))
    (c.padded_blocks.ensures j lt)
