use Rattle.std.proofs.Common.{ℕ, [], ◌∷◌, slice_index_or}
use Rattle.sha256x8.specs.Padded.{IsBlock}
use Rattle.sha256x8.proofs.LaneWise.{below_eight, text_at_is, text_of}
use Rattle.sha256x8.proofs.padding.padded_blocks.Goals as goal

pub returns : goal.returns
returns c = λ j lt.
    let blocks = c.padded_block.result ∷ c.padded_block-2.result ∷ c.padded_block-3.result ∷
    c.padded_block-4.result ∷ c.padded_block-5.result ∷ c.padded_block-6.result ∷
    c.padded_block-7.result ∷ c.padded_block-8.result ∷ [] in
    rw (text_at_is c.args.texts.now j)
    (below_eight (λ (k : ℕ). IsBlock (text_of c.args.texts.now k) c.args.index (slice_index_or blocks k []))
    c.padded_block.ensures c.padded_block-2.ensures c.padded_block-3.ensures
    c.padded_block-4.ensures c.padded_block-5.ensures c.padded_block-6.ensures
    c.padded_block-7.ensures c.padded_block-8.ensures j lt)
