use Rattle.std.proofs.Common.{◌≡◌, ◌<◌, ◌≤◌, ℕ, [], slice_index, slice_index_or, length}
use Rattle.mac_hmac.proofs.side_by_side.told_apart.Given as goal

abbrev pub invariant-loop-j : goal.invariant-loop-j
invariant-loop-j l = (l.count ≤ 4) × (length l.few ≡ 4) × (length l.which ≡ 8)
    × ((k : ℕ) → k < l.j → slice_index l.which k < l.count
    × (slice_index_or l.few (slice_index l.which k) [] ≡ slice_index_or l.keys k []))
