use Rattle.std.proofs.Common.{ℕ, List, [], slice_index_or, ap, ◌∙◌}
use Rattle.sha2.specs.Sha256.{compress}
use Rattle.sha256x8.proofs.digests.begin_each.Goals as goal

pub returns : goal.returns
returns c = λ j lt.
    let block = slice_index_or c.args.blocks.now j [] in
    c.compress.ensures j lt block (c.words_of.ensures j lt)
    ∙ ap (λ (h : List ℕ). compress h block) (c.initial_state-state.ensures j lt)
