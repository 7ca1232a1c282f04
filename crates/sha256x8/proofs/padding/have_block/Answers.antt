use Rattle.std.proofs.Common.{◌≡◌, ℕ, ◌*◌, [], ◌∷◌, if◌then◌else◌, length, nat_lt, slice_index}
use Rattle.sha256x8.specs.Padded.{padded_text}
use Rattle.sha256x8.proofs.LaneWise.{below_eight, text_at_is, text_of}
use Rattle.sha256x8.proofs.padding.have_block.Goals as goal

pub returns : goal.returns
returns c = λ j lt.
    let have = c.has_block.result ∷ c.has_block-2.result ∷ c.has_block-3.result ∷
    c.has_block-4.result ∷ c.has_block-5.result ∷ c.has_block-6.result ∷ c.has_block-7.result ∷
    c.has_block-8.result ∷ [] in
    let has = λ (k : ℕ). nat_lt (64 * c.args.index) (length (padded_text (text_of c.args.texts.now k))) in
    rw (text_at_is c.args.texts.now j)
    (below_eight (λ (k : ℕ). slice_index have k ≡ (if has k then 1 else 0))
    c.has_block.ensures c.has_block-2.ensures c.has_block-3.ensures c.has_block-4.ensures
    c.has_block-5.ensures c.has_block-6.ensures c.has_block-7.ensures c.has_block-8.ensures j lt)
