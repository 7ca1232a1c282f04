use Rattle.std.proofs.Common.{◌≡◌, ◌≢◌, ℕ, ◌<◌, length, slice_index}
use Rattle.sha2.specs.Sha256.{add32}
use Rattle.sha256x8.specs.Lanes.{lane_at}
use Rattle.sha256x8.proofs.block.put_sums.Given as goal

abbrev pub invariant-rows : goal.invariant-rows
invariant-rows l = (length l.sums ≡ 8)
    × ((n : ℕ) → n < l.k → lane_at l.sums n l.j ≡ add32 (slice_index l.hash n) (slice_index l.v n))
    × ((n i : ℕ) → i ≢ l.j → lane_at l.sums n i ≡ lane_at l.fn.sums n i)
