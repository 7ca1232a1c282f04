use Rattle.std.proofs.Common.{◌≡◌, ℕ, ◌<◌, length, slice_index_or, ◌*◌, []}
use Rattle.sha2.specs.Sha256.{word_at}
use Rattle.sha256x8.specs.Lanes.{lane_at}
use Rattle.sha256x8.proofs.block.words_of.Given as goal

abbrev pub invariant-load : goal.invariant-load
invariant-load l = (length l.words ≡ 16) ×
    ((j k : ℕ) → j < 8 → k < l.i → lane_at l.words k j
    ≡ word_at (slice_index_or l.blocks j []) (4 * k))
