use Rattle.std.proofs.Common.{◌++◌, [], slice_index_or}
use Rattle.sha256x8.specs.Lanes.{text_at}
use Rattle.sha256x8.proofs.digests.nested_digest_each.Goals as goal

pub returns : goal.returns
returns c = λ j lt.
    let outer = slice_index_or c.args.outer_blocks.now j [] in
    let inner = slice_index_or c.args.inner_blocks.now j [] in
    c.close_each.ensures j lt outer (inner ++ text_at c.args.texts.now j)
    (c.are_whole.ensures j lt) (c.begin_each-2.ensures j lt)
    (c.finish_each-inner.ensures j lt inner (c.are_whole-2.ensures j lt)
    (c.begin_each.ensures j lt))
