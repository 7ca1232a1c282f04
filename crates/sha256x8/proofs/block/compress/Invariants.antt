use Rattle.std.proofs.Common.{◌≡◌, ℕ, ◌<◌, List}
use Rattle.sha2.specs.Sha256.{IsWindow, compress, schedule}
use Rattle.sha256x8.specs.Lanes.{lane_state, lane_words}
use Rattle.sha256x8.proofs.block.compress.Given as goal

abbrev pub invariant-lanes : goal.invariant-lanes
invariant-lanes l = (i : ℕ) → i < l.j → (b : List ℕ)
    → IsWindow (lane_words i l.words) (schedule b 48) 16
    → lane_state i l.sums ≡ compress (lane_state i l.state) b
